-- What lies further on than one record of 44 bytes for each client and one more can't matter: a program needs no larger room.
use mathlib.Core.Bool.{Bool, true, false, not, ◌||◌}
use mathlib.Core.List.{List, [], ◌∷◌, ◌++◌}
use mathlib.Core.Path.{◌≡◌, refl, sym, ap, ◌∙◌}
use Prim.Native.Nat.{ℕ, zero, suc, ◌+◌, ◌*◌, ◌^◌, ◌≤◌, ◌<◌}
use native.Mathlib.Omega.{arith}
use lib.Count.{ones}
use lib.Dec.{eqb, leb, ltb}
use lib.ListN.{length, get_or, drop, length-append, length-drop}
use lib.Seq.{drop-append-le}
use borrow.Author.Tests.{leb-false, le-ltb}
use Rattle.sums.specs.Choice.{pick, unless_refused}
use Rattle.sums.specs.Table.{first}
use Rattle.sums.proofs.Choices.{or-fails}
use Rattle.sums.proofs.Tables.{first-fails}
use Rattle.numbers.specs.Bytes.{number}
use Rattle.rows.specs.declared.Book.{Book}
use Rattle.rows.specs.Rows.{number_at, place_of, is_live_client_of}
use Rattle.book.specs.Sound.{sound_b}
use Rattle.book.proofs.SoundTest.{sound→}
use Rattle.dayfile.specs.Records.{bit}
use Rattle.dayfile.specs.Reading.{got, past}
use Rattle.dayfile.proofs.Marks.{bit-lt}
use Rattle.statement.specs.Forms.{set_in, size_in, account_in, parts_from, parts_in, not_whole}
use Rattle.statement.specs.Statements.{clients_from, live_clients, record_faults, surplus_faults, found, finding_from, asked_refusals, statement_finding}
use Rattle.statement.proofs.Bits.{ones-five}
use Rattle.statement.proofs.Turns.{one_more, too_many}
use Rattle.statement.proofs.Asked.{refused-1}

number-far : (k : ℕ) (l x : List ℕ) → k ≤ length l → number k (l ++ x) ≡ number k l
unfolding number
number-far zero l x h = refl
number-far (suc k) [] x h = absurd (omega arith)
number-far (suc k) (b ∷ l) x h = ap (λ n. b * 256 ^ k + n) (number-far k l x (omega arith))

got-far : (b : ℕ) (l x : List ℕ) → 8 ≤ length l → got b (l ++ x) ≡ got b l
unfolding got
got-far zero l x h = refl
got-far (suc b) l x h = number-far 8 l x h

past-far : (b : ℕ) (l x : List ℕ) → 8 ≤ length l → past b (l ++ x) ≡ past b l ++ x
unfolding past
past-far zero l x h = refl
past-far (suc b) l x h = drop-append-le 8 l x h

past-long : (b k : ℕ) (l : List ℕ) → 8 + k ≤ length l → k ≤ length (past b l)
unfolding past
past-long zero k l h = omega arith
past-long (suc b) k l h = rw length-drop (omega arith)

parts-far : (n : ℕ) (l x : List ℕ) → 40 ≤ length l → parts_from n (l ++ x) ≡ parts_from n l
unfolding parts_from
parts-far n l0 x h =
    let l1 = past (bit 0 n) l0 in
    let l2 = past (bit 1 n) l1 in
    let l3 = past (bit 2 n) l2 in
    let l4 = past (bit 3 n) l3 in
    let h1 = past-long (bit 0 n) 32 l0 h in
    let h2 = past-long (bit 1 n) 24 l1 h1 in
    let h3 = past-long (bit 2 n) 16 l2 h2 in
    let h4 = past-long (bit 3 n) 8 l3 h3 in
    let e1 = past-far (bit 0 n) l0 x (omega arith) in
    let e2 = ap (past (bit 1 n)) e1 ∙ past-far (bit 1 n) l1 x (omega arith) in
    let e3 = ap (past (bit 2 n)) e2 ∙ past-far (bit 2 n) l2 x (omega arith) in
    let e4 = ap (past (bit 3 n)) e3 ∙ past-far (bit 3 n) l3 x (omega arith) in
    λ j. record {
      received = got-far (bit 0 n) l0 x (omega arith) j;
      retained = (ap (got (bit 1 n)) e1 ∙ got-far (bit 1 n) l1 x (omega arith)) j;
      placed = (ap (got (bit 2 n)) e2 ∙ got-far (bit 2 n) l2 x (omega arith)) j;
      held = (ap (got (bit 3 n)) e3 ∙ got-far (bit 3 n) l3 x (omega arith)) j;
      lodged = (ap (got (bit 4 n)) e4 ∙ got-far (bit 4 n) l4 x h4) j;
    }

at-far : (i : ℕ) (l x : List ℕ) → i < length l → get_or (l ++ x) i 0 ≡ get_or l i 0
at-far zero [] x h = absurd (omega arith)
at-far zero (b ∷ l) x h = refl
at-far (suc i) [] x h = absurd (omega arith)
at-far (suc i) (b ∷ l) x h = at-far i l x (omega arith)

-- a record's faults, where 44 bytes are there
module _ (l x : List ℕ) (long : 44 ≤ length l) where
  set-far : set_in (l ++ x) ≡ set_in l
  set-far = at-far 1 l x (omega arith)

  account-far : account_in (l ++ x) ≡ account_in l
  account-far = ap (number 2) (drop-append-le 2 l x (omega arith)) ∙ number-far 2 (drop 2 l) x (rw length-drop (omega arith))

  parts_in-far : parts_in (l ++ x) ≡ parts_in l
  parts_in-far = rw (set-far, drop-append-le 4 l x (omega arith)) (parts-far (set_in l) (drop 4 l) x (rw length-drop (omega arith)))

  size-most : leb 32 (set_in l) ≡ false → size_in l ≤ 44
  size-most e =
      let n = set_in l in
      omega (arith, ones-five n (leb-false 32 n e), bit-lt 0 n, bit-lt 1 n, bit-lt 2 n, bit-lt 3 n, bit-lt 4 n)

  whole-far : not_whole (l ++ x) ≡ not_whole l
  whole-far = rw (at-far 0 l x (omega arith), set-far, length-append) (by (not (eqb (get_or l 0 0) 1)) (leb 32 (set_in l)) refl)
    where
      by : (s t : Bool) → leb 32 (set_in l) ≡ t → (s || t || ltb (length l + length x) (size_in l)) ≡ (s || t || ltb (length l) (size_in l))
      by true t e = refl
      by false true e = refl
      by false false e =
          let h = size-most e in
          le-ltb (length l + length x) (size_in l) (omega arith) ∙ sym (le-ltb (length l) (size_in l) (omega arith))

  faults-far : (b : Book) (i : ℕ) → record_faults b i (l ++ x) ≡ record_faults b i l
  faults-far b i = rw (whole-far, account-far, parts_in-far, set-far)

  surplus-far : surplus_faults (l ++ x) ≡ surplus_faults l
  surplus-far = rw (whole-far, parts_in-far, set-far)

far : (b : Book) (k : ℕ) (is l x : List ℕ) → 44 * (length is + 1) ≤ length l → finding_from b k is (l ++ x) ≡ finding_from b k is l
far b k [] l x h =
    too_many b k (l ++ x) (rw length-append (omega arith))
    ∙ ap (λ t. found (first t) k 0) (surplus-far l x (omega arith))
    ∙ sym (too_many b k l (omega arith))
far b k (i ∷ is) l x h =
    one_more b k i is (l ++ x) (rw length-append (omega arith))
    ∙ ap (λ t. unless_refused (first t) (finding_from b (k + 1) is (drop (size_in (l ++ x)) (l ++ x))) (λ n. found n k (number_at b i))) (faults-far l x (omega arith) b i)
    ∙ by (first (record_faults b i l)) refl (λ q. far b (k + 1) is (drop (size_in l) l) x q)
    ∙ sym (one_more b k i is l (omega arith))
  where
    by : (n : ℕ) → first (record_faults b i l) ≡ n
        → (44 * (length is + 1) ≤ length (drop (size_in l) l) → finding_from b (k + 1) is (drop (size_in l) l ++ x) ≡ finding_from b (k + 1) is (drop (size_in l) l))
        → unless_refused n (finding_from b (k + 1) is (drop (size_in (l ++ x)) (l ++ x))) (λ m. found m k (number_at b i))
        ≡ unless_refused n (finding_from b (k + 1) is (drop (size_in l) l)) (λ m. found m k (number_at b i))
    by (suc n) e go = refl
    by zero e go =
        let long : 44 ≤ length l = omega arith in
        let whole = (first-fails 24 (not_whole l) _ (omega arith) e).0 in
        let a = or-fails (not (eqb (get_or l 0 0) 1) || leb 32 (set_in l)) (ltb (length l) (size_in l)) whole in
        let most = size-most l x long (or-fails (not (eqb (get_or l 0 0) 1)) (leb 32 (set_in l)) a.0).1 in
        ap (λ n. finding_from b (k + 1) is (drop (4 + 8 * ones n) (l ++ x))) (set-far l x long)
        ∙ ap (finding_from b (k + 1) is) (drop-append-le (size_in l) l x (omega arith))
        ∙ go (rw length-drop (omega arith))

clients-most : (b : Book) (t n i : ℕ) → length (clients_from b t n i) ≤ n
unfolding clients_from pick
clients-most b t zero i = omega arith
clients-most b t (suc n) i = by (is_live_client_of b t i) (clients-most b t n (i + 1))
  where
    by : (y : Bool) → length (clients_from b t n (i + 1)) ≤ n → length (pick y (i ∷ clients_from b t n (i + 1)) (clients_from b t n (i + 1))) ≤ suc n
    by true h = omega arith
    by false h = omega arith

-- so of a file that is longer than 257 such records the rest may stay unread
pub no-further : (b : Book) (tm : ℕ) (s x : List ℕ) → 11_308 ≤ length s → statement_finding b tm (s ++ x) ≡ statement_finding b tm s
unfolding statement_finding
no-further b tm s x h = by (sound_b b) refl
  where
    by : (y : Bool) → sound_b b ≡ y → statement_finding b tm (s ++ x) ≡ statement_finding b tm s
    by false e = sym (refused-1 b tm (s ++ x) e) ∙ refused-1 b tm s e
    by true e =
        ap (λ f. unless_refused (first (asked_refusals b tm)) f (λ n. found n 0 0))
        (far b 0 (live_clients b (place_of b tm)) s x (omega (arith, clients-most b (place_of b tm) b.count 0, (sound→ b e).most)))
