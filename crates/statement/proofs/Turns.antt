-- The records of a statement, held against the clients one by one: what a turn of the loop does.
use mathlib.Core.Bool.{true, false, ◌&&◌}
use mathlib.Core.List.{List, [], ◌∷◌}
use mathlib.Core.Path.{◌≡◌, refl, sym, ap, ◌∙◌}
use Prim.Native.Nat.{ℕ, suc, ◌+◌, ◌-◌, ◌≤◌, ◌<◌}
use native.Mathlib.Omega.{arith}
use native.Mathlib.Decide.{dec_le}
use lib.Dec.{eqb, leb}
use lib.ListN.{length, get_or, drop, length-drop, drop_of_length-le}
use lib.Seq.{drop-drop}
use borrow.Author.Tests.{le-leb, lt-leb}
use Rattle.sums.specs.Choice.{unless_refused}
use Rattle.sums.specs.Table.{first}
use Rattle.sums.proofs.Choices.{pick_yes, pick_no, refused-by}
use Rattle.sums.proofs.Tables.{first-clear}
use Rattle.rows.specs.declared.Book.{Book}
use Rattle.rows.specs.Rows.{row_at, number_at, is_live_client_of}
use Rattle.rows.specs.Facts.{KindsWithin, InRange}
use Rattle.rows.specs.Ranges.{ceilings}
use Rattle.rows.specs.Inner.{Ranged}
use Rattle.table.specs.declared.Table.{Table}
use Rattle.table.specs.Words.{word_at, kinds_from, row_in, turned_back}
use Rattle.table.proofs.Gathered.{row-in}
use Rattle.statement.specs.Forms.{size_in, not_whole, form_faults}
use Rattle.statement.specs.Statements.{total_of, clients_from, live_clients, record_faults, surplus_faults, found, finding_from}
use Rattle.statement.specs.Inner.{wanted_refusal}
use Rattle.statement.proofs.Reading.{form-clear, size-within}

-- ---- the clients from a place on

module _ (b : Book) (t n i : ℕ) where
  pub client-end : n ≤ i → clients_from b t (n - i) i ≡ []
  unfolding clients_from
  client-end h = let e : n - i ≡ 0 = omega arith in rw e refl

  module _ (h : i < n) where
    left : n - i ≡ suc (n - (i + 1))
    left = omega arith

    pub client-here : is_live_client_of b t i ≡ true → clients_from b t (n - i) i ≡ i ∷ clients_from b t (n - (i + 1)) (i + 1)
    unfolding clients_from
    client-here e = rw left (pick_yes (is_live_client_of b t i) _ _ e)

    pub client-not : is_live_client_of b t i ≡ false → clients_from b t (n - i) i ≡ clients_from b t (n - (i + 1)) (i + 1)
    unfolding clients_from
    client-not e = rw left (pick_no (is_live_client_of b t i) _ _ e)

-- ---- a record, where one is wanted

pub one_more : (b : Book) (k i : ℕ) (is l : List ℕ) → 0 < length l
    → finding_from b k (i ∷ is) l ≡ unless_refused (first (record_faults b i l)) (finding_from b (k + 1) is (drop (size_in l) l)) (λ n. found n k (number_at b i))
unfolding finding_from
one_more b k i is [] h = absurd (omega arith)
one_more b k i is (x ∷ l) h = refl

pub one-wanting : (b : Book) (k i : ℕ) (is : List ℕ) → finding_from b k (i ∷ is) [] ≡ found 26 k (number_at b i)
unfolding finding_from
one-wanting b k i is = refl

module _ (b : Book) (k i : ℕ) (is s : List ℕ) (at : ℕ) (inside : at ≤ length s) where
  abbrev wanted : ℕ
  wanted = wanted_refusal s at (number_at b i) (total_of (row_at b i).received) (total_of (row_at b i).allocated)

  some : (length s ≤ at → ⊥) → 0 < length (drop at s)
  some h = rw length-drop (omega arith)

  none_left : length s ≤ at → finding_from b k (i ∷ is) (drop at s) ≡ found 26 k (number_at b i)
  none_left h = ap (finding_from b k (i ∷ is)) (drop_of_length-le s h) ∙ one-wanting b k i is

  the-wanted : (length s ≤ at → ⊥) → wanted ≡ first (record_faults b i (drop at s))
  the-wanted h = let l : at < length s = omega arith in pick_no (leb (length s) at) _ _ (lt-leb (length s) at l)

  pub turn-refused : (f : ℕ) → f ≡ wanted → (f ≡ 0 → ⊥) → found f k (number_at b i) ≡ finding_from b k (i ∷ is) (drop at s)
  turn-refused f e h = by (dec_le (length s) at)
    where
      by : Dec (length s ≤ at) → found f k (number_at b i) ≡ finding_from b k (i ∷ is) (drop at s)
      by (yes q) = ap (λ n. found n k (number_at b i)) (e ∙ pick_yes (leb (length s) at) _ _ (le-leb _ _ q)) ∙ sym (none_left q)
      by (no q) =
          ap (λ n. found n k (number_at b i)) (e ∙ the-wanted q)
          ∙ refused-by (first (record_faults b i (drop at s))) (finding_from b (k + 1) is (drop (size_in (drop at s)) (drop at s))) (λ n. found n k (number_at b i))
          (λ z. h (e ∙ the-wanted q ∙ z))
          ∙ sym (one_more b k i is (drop at s) (some q))

  module _ (e : wanted ≡ 0) where
    there : length s ≤ at → ⊥
    there q = let z : 26 ≡ wanted = sym (pick_yes (leb (length s) at) _ _ (le-leb _ _ q)) in omega arith

    turn-whole : not_whole (drop at s) ≡ false
    turn-whole = (form-clear s at (first-clear (form_faults (drop at s)) _ (sym (the-wanted there) ∙ e))).0

    pub turn-within : at + size_in (drop at s) ≤ length s
    turn-within = size-within s at turn-whole inside

    pub turn_on : finding_from b k (i ∷ is) (drop at s) ≡ finding_from b (k + 1) is (drop (at + size_in (drop at s)) s)
    turn_on =
        one_more b k i is (drop at s) (some there)
        ∙ ap (λ n. unless_refused n (finding_from b (k + 1) is (drop (size_in (drop at s)) (drop at s))) (λ n. found n k (number_at b i))) (sym (the-wanted there) ∙ e)
        ∙ ap (finding_from b (k + 1) is) (drop-drop (size_in (drop at s)) at s)

-- ---- after the last client

pub nothing-more : (b : Book) (k : ℕ) → finding_from b k [] [] ≡ found 0 0 0
unfolding finding_from
nothing-more b k = refl

pub too_many : (b : Book) (k : ℕ) (l : List ℕ) → 0 < length l → finding_from b k [] l ≡ found (first (surplus_faults l)) k 0
unfolding finding_from
too_many b k [] h = absurd (omega arith)
too_many b k (x ∷ l) h = refl

module _ (b : Book) (k : ℕ) (s : List ℕ) (at : ℕ) where
  pub turn-surplus : at < length s → (f : ℕ) → f ≡ first (surplus_faults (drop at s)) → found f k 0 ≡ finding_from b k [] (drop at s)
  turn-surplus h f e = ap (λ n. found n k 0) e ∙ sym (too_many b k (drop at s) (rw length-drop (omega arith)))

  pub turn_end : length s ≤ at → found 0 0 0 ≡ finding_from b k [] (drop at s)
  turn_end h = sym (ap (finding_from b k []) (drop_of_length-le s h) ∙ nothing-more b k)

-- ---- the loop over the rows

-- the refusal of what stands at a place where row i's record is wanted
abbrev pub asked_for : Book → ℕ → List ℕ → ℕ → ℕ
asked_for b i s at = wanted_refusal s at (number_at b i) (total_of (row_at b i).received) (total_of (row_at b i).allocated)

-- where it stands: what is left of the clients and of the bytes gives what all of them give
pub record Stands (b : Book) (tm : ℕ) (s : List ℕ) (i index at : ℕ) : Type 0 where
  pub inside : at ≤ length s
  pub low : index ≤ i
  pub gives : finding_from b 0 (live_clients b tm) s ≡ finding_from b index (clients_from b tm (b.count - i) i) (drop at s)

module _ (b : Book) (tm : ℕ) (s : List ℕ) {i index at : ℕ} (h : Stands b tm s i index at) where
  module _ (l : i < b.count) where
    abbrev others : List ℕ
    others = clients_from b tm (b.count - (i + 1)) (i + 1)

    -- a row of no live client is passed
    pub passed_by : is_live_client_of b tm i ≡ false → Stands b tm s (i + 1) index at
    passed_by e = record {
      inside = h.inside;
      low = omega (arith, h.low);
      gives = h.gives ∙ ap (λ is. finding_from b index is (drop at s)) (client-not b tm b.count i l e);
    }

    pub its-end : asked_for b i s at ≡ 0 → at + size_in (drop at s) ≤ length s
    its-end = turn-within b 0 i [] s at h.inside

    module _ (live : is_live_client_of b tm i ≡ true) where
      next : finding_from b 0 (live_clients b tm) s ≡ finding_from b index (i ∷ others) (drop at s)
      next = h.gives ∙ ap (λ is. finding_from b index is (drop at s)) (client-here b tm b.count i l live)

      pub stops : {f : ℕ} → f ≡ asked_for b i s at → (f ≡ 0 → ⊥) → found f index (number_at b i) ≡ finding_from b 0 (live_clients b tm) s
      stops e z = turn-refused b index i others s at h.inside _ e z ∙ sym next

      pub goes_on : asked_for b i s at ≡ 0 → Stands b tm s (i + 1) (index + 1) (at + size_in (drop at s))
      goes_on e = record {
        inside = its-end e;
        low = omega (arith, h.low);
        gives = next ∙ turn_on b index i others s at h.inside e;
      }

  module _ (e : b.count ≤ i) where
    last : finding_from b index [] (drop at s) ≡ finding_from b 0 (live_clients b tm) s
    last = sym (h.gives ∙ ap (λ is. finding_from b index is (drop at s)) (client-end b tm b.count i e))

    pub ends-surplus : at < length s → {f : ℕ} → f ≡ first (surplus_faults (drop at s)) → found f index 0 ≡ finding_from b 0 (live_clients b tm) s
    ends-surplus l e = turn-surplus b index s at l _ e ∙ last

    pub ends-clear : length s ≤ at → found 0 0 0 ≡ finding_from b 0 (live_clients b tm) s
    ends-clear l = turn_end b index s at l ∙ last

-- ---- a row's words

-- whether it is a client's
pub client-in : (t : Table) (tm i : ℕ) → i < 256
    → (eqb (get_or t.marks.sort i 0) 2 && eqb (get_or t.marks.tm i 0) tm && get_or t.marks.live i false) ≡ is_live_client_of (turned_back t) tm i
client-in t tm i l = rw (row-in t.marks t.amounts i l) refl

module _ (t : Table) (ranged : Ranged (turned_back t)) (i : ℕ) (l : i < t.count) where
  the_row : row_at (turned_back t) i ≡ row_in t.marks t.amounts i
  the_row = row-in t.marks t.amounts i (omega (arith, ranged.most))

  range : InRange (row_in t.marks t.amounts i)
  range = rw the_row at (ranged.ranges i l)

  pub received-within : KindsWithin (kinds_from (λ j. word_at t.amounts j i) 0) ceilings
  received-within = range.received

  pub allocated-within : KindsWithin (kinds_from (λ j. word_at t.amounts j i) 4) ceilings
  allocated-within =
      let r = range.received in
      let a = range.allocated in
      (omega (arith, r.0, a.0), omega (arith, r.1, a.1), omega (arith, r.2, a.2), omega (arith, r.3, a.3))

  -- what a turn of the loop reads, against the book's totals
  pub wanted_by : (s : List ℕ) (at number : ℕ)
      → wanted_refusal s at number (total_of (kinds_from (λ j. word_at t.amounts j i) 0)) (total_of (kinds_from (λ j. word_at t.amounts j i) 4))
      ≡ wanted_refusal s at number (total_of (row_at (turned_back t) i).received) (total_of (row_at (turned_back t) i).allocated)
  wanted_by s at number = sym (ap (λ r. wanted_refusal s at number (total_of r.received) (total_of r.allocated)) the_row)
