-- K13: "A statement is accepted exactly when it is so written", and "Any statement written by these rules passes."
use mathlib.Core.Bool.{Bool, true, false, not}
use mathlib.Core.List.{List, [], ◌∷◌, ◌++◌}
use mathlib.Core.Path.{◌≡◌, refl, sym, ap, subst, ◌∙◌}
use Prim.Native.Nat.{ℕ, zero, suc, ◌+◌, ◌≤◌, ◌<◌}
use native.Mathlib.Omega.{arith}
use lib.Dec.{eqb, ltb}
use lib.ListN.{length, drop}
use borrow.Author.Tests.{eqb-true, eq-eqb, ltb-false, le-ltb, not-false}
use Rattle.sums.specs.Choice.{pick, unless_refused}
use Rattle.sums.specs.Table.{first}
use Rattle.sums.proofs.Choices.{and_split}
use Rattle.sums.proofs.Tables.{first-here, first-fails, none-gives-0}
use Rattle.numbers.specs.Bytes.{Bytes}
use Rattle.numbers.proofs.Numbers.{bytes_drop}
use Rattle.rows.specs.declared.Book.{Book}
use Rattle.rows.specs.Rows.{row_at, number_at, place_of, is_live, is_live_client_of}
use Rattle.book.specs.Sound.{sound_b}
use Rattle.book.specs.Facts.{Sound}
use Rattle.book.proofs.SoundTest.{sound→}
use Rattle.statement.specs.declared.Finding.{Finding}
use Rattle.statement.specs.declared.records.Parts.{Parts}
use Rattle.statement.specs.Forms.{record_for, set_in, size_in, account_in, parts_in, not_whole, four_ceilings, bad_amounts}
use Rattle.statement.specs.Statements.{total_of, clients_from, live_clients, adds_up, record_faults, surplus_faults, found, finding_from, asked_refusals, statement_finding}
use Rattle.statement.specs.ByTheRules.{OfTM, Right, SoWritten, none, also}
use Rattle.statement.specs.Inner.{Fits}
use Rattle.statement.proofs.Asked.{none-asked}
use Rattle.statement.proofs.Turns.{one_more, nothing-more}
use Rattle.statement.proofs.Forms.{account-written, parts-written, rest-written, whole-written, range-written, record-read}

-- ---- a record without a fault is so written

module _ (b : Book) (i : ℕ) (l : List ℕ) (h : first (record_faults b i l) ≡ 0) where
  record-right : (not_whole l ≡ false) × (bad_amounts (set_in l) (parts_in l) ≡ false) × (account_in l ≡ number_at b i) × Right (row_at b i) (parts_in l)
  record-right =
      let f₂₄ = first-fails 24 (not_whole l) _ (omega arith) h in
      let f₂₅ = first-fails 25 (bad_amounts (set_in l) (parts_in l)) _ (omega arith) f₂₄.1 in
      let f₂₆ = first-fails 26 (not (eqb (account_in l) (number_at b i))) _ (omega arith) f₂₅.1 in
      let f₂₇ = first-fails 27 (not (adds_up (parts_in l))) _ (omega arith) f₂₆.1 in
      let f₂₈ = first-fails 28 (not (eqb (parts_in l).received (total_of (row_at b i).received))) _ (omega arith) f₂₇.1 in
      let f₂₉ = first-fails 29 (ltb (total_of (row_at b i).allocated) (parts_in l).lodged) [] (omega arith) f₂₈.1 in
      let sums = and_split (eqb ((parts_in l).retained + (parts_in l).placed) (parts_in l).received) _ (not-false _ f₂₇.0) in (
        f₂₄.0,
        f₂₅.0,
        eqb-true _ _ (not-false _ f₂₆.0),
        record {
          tm = eqb-true _ _ sums.0;
          cm = eqb-true _ _ sums.1;
          all = eqb-true _ _ (not-false _ f₂₈.0);
          enough = ltb-false _ _ f₂₉.0;
        },
      )

  pub right-read : Right (row_at b i) (parts_in l)
  right-read = record-right.3

  pub written_read : Bytes l → record_for (number_at b i) (parts_in l) ++ drop (size_in l) l ≡ l
  written_read y = ap (λ n. record_for n (parts_in l) ++ drop (size_in l) l) (sym record-right.2) ∙ record-read l y record-right.0 record-right.1

-- ---- what is accepted is so written

-- nothing is refused where neither of two things is
both-0 : (n : ℕ) (f : Finding) (k w : ℕ) → (unless_refused n f (λ m. found m k w)).refusal ≡ 0 → (n ≡ 0) × (f.refusal ≡ 0)
both-0 zero f k w h = (refl, h)
both-0 (suc n) f k w h = absurd (omega arith)

no-surplus : (l : List ℕ) → first (surplus_faults l) ≡ 0 → ⊥
no-surplus l h =
    let f₂₄ = first-fails 24 (not_whole l) _ (omega arith) h in
    let f₂₅ = first-fails 25 (bad_amounts (set_in l) (parts_in l)) _ (omega arith) f₂₄.1 in
    omega (arith, f₂₅.1, first-here 26 true [] refl)

accepted→ : (b : Book) (k : ℕ) (is l : List ℕ) → Bytes l → (finding_from b k is l).refusal ≡ 0 → SoWritten b is l
unfolding finding_from
accepted→ b k [] [] y h = none
accepted→ b k [] (x ∷ l) y h = absurd (no-surplus (x ∷ l) h)
accepted→ b k (i ∷ is) [] y h = absurd (omega arith)
accepted→ b k (i ∷ is) (x ∷ l) y h =
    let both = both-0 _ _ k (number_at b i) h in
    let rest = accepted→ b (k + 1) is (drop (size_in (x ∷ l)) (x ∷ l)) (bytes_drop (size_in (x ∷ l)) (x ∷ l) y) both.1 in
    subst (SoWritten b (i ∷ is)) (written_read b i (x ∷ l) both.0 y) (also (parts_in (x ∷ l)) (right-read b i (x ∷ l) both.0) rest)

-- ---- what is so written is accepted

-- a fact of each place of a list
unfoldable pub Each : (ℕ → Type 0) → List ℕ → Type 0
Each P [] = Unit
Each P (i ∷ is) = P i × Each P is

module _ (b : Book) (s : Sound b) where
  module _ (i : ℕ) (l : i < b.count) (p : Parts) (r : Right (row_at b i) p) where
    small : number_at b i < 65536
    small = omega (arith, s.numbered.below i l, s.numbered.last)

    -- no bound is asked of the amounts: the book's total has one
    fits : Fits p
    fits =
        let g = (s.ranges i l).received in
        let all : p.received ≤ four_ceilings = omega (arith, r.all, g.0, g.1, g.2, g.3) in
        record {
          received = all;
          retained = omega (arith, r.tm);
          placed = omega (arith, r.tm);
          held = omega (arith, r.tm, r.cm);
          lodged = omega (arith, r.tm, r.cm);
        }

    no-fault : (t : List ℕ) → first (record_faults b i (record_for (number_at b i) p ++ t)) ≡ 0
    no-fault t =
        let n = number_at b i in
        let read = parts-written n p small fits t in
        none-gives-0 (record_faults b i (record_for n p ++ t)) (
          whole-written n p small fits t,
          (
            range-written n p small fits t,
            (
              rw (account-written n p small fits t, eq-eqb n n refl),
              (
                rw (read, eq-eqb _ _ r.tm, eq-eqb _ _ r.cm),
                (rw (read, eq-eqb _ _ r.all), (rw read (le-ltb _ _ r.enough), tt)),
              ),
            ),
          ),
        )

    some_bytes : (n : ℕ) (t : List ℕ) → 0 < length (record_for n p ++ t)
    unfolding record_for
    some_bytes n t = omega arith

    -- a record that is so written is passed
    pub written_on : (k : ℕ) (is t : List ℕ) → finding_from b k (i ∷ is) (record_for (number_at b i) p ++ t) ≡ finding_from b (k + 1) is t
    written_on k is t =
        let n = number_at b i in
        let f = finding_from b (k + 1) is (drop (size_in (record_for n p ++ t)) (record_for n p ++ t)) in
        one_more b k i is (record_for n p ++ t) (some_bytes n t)
        ∙ ap (λ m. unless_refused m f (λ j. found j k n)) (no-fault t)
        ∙ ap (finding_from b (k + 1) is) (rest-written n p small fits t)

  accepted← : (k : ℕ) {is l : List ℕ} → Each (λ i. i < b.count) is → SoWritten b is l → finding_from b k is l ≡ found 0 0 0
  unfolding Each
  accepted← k e none = nothing-more b k
  accepted← k e (also {i} {is} {l} p r w) = written_on i e.0 p r k is l ∙ accepted← (k + 1) e.1 w

-- the live clients have a row held
clients-held : (b : Book) (t n i : ℕ) → i + n ≤ b.count → Each (λ j. j < b.count) (clients_from b t n i)
unfolding clients_from Each pick
clients-held b t zero i h = tt
clients-held b t (suc n) i h = by (is_live_client_of b t i) (clients-held b t n (i + 1) (omega arith))
  where
    by : (x : Bool) → Each (λ j. j < b.count) (clients_from b t n (i + 1)) → Each (λ j. j < b.count) (pick x (i ∷ clients_from b t n (i + 1)) (clients_from b t n (i + 1)))
    by true g = (omega arith, g)
    by false g = g

pub each-held : (b : Book) (t : ℕ) → Each (λ j. j < b.count) (live_clients b t)
each-held b t = clients-held b t b.count 0 (omega arith)

-- ---- the statement of a TM

-- where none of 1, 7 and 8 applies
pub of-tm : (b : Book) (tm : ℕ) → first (asked_refusals b tm) ≡ 0 → OfTM b tm
of-tm b tm h =
    let f₁ = first-fails 1 (not (sound_b b)) _ (omega arith) h in
    let f₇ = first-fails 7 (not (is_live b (place_of b tm))) _ (omega arith) f₁.1 in
    let f₈ = first-fails 8 (not (eqb (row_at b (place_of b tm)).sort 1)) [] (omega arith) f₇.1 in
    record { sound = not-false _ f₁.0; live = not-false _ f₇.0; sort = eqb-true _ _ (not-false _ f₈.0) }

-- "A statement is accepted exactly when it is so written": where the book is sound and the account is a live TM, a file of bytes is given 0 exactly when it is a record
-- for each of its live clients, in rising number, with five amounts that are right for it.
module _ (b : Book) (tm : ℕ) (s : List ℕ) where
  pub accepted-is-so-written : Bytes s → (statement_finding b tm s).refusal ≡ 0 → OfTM b tm × SoWritten b (live_clients b (place_of b tm)) s
  unfolding statement_finding
  accepted-is-so-written y h =
      let both = both-0 (first (asked_refusals b tm)) _ 0 0 h in
      (of-tm b tm both.0, accepted→ b 0 (live_clients b (place_of b tm)) s y both.1)

  -- "Any statement written by these rules passes."
  pub so-written-passes : OfTM b tm → SoWritten b (live_clients b (place_of b tm)) s → statement_finding b tm s ≡ found 0 0 0
  so-written-passes o w =
      sym (none-asked b tm s o.sound o.live o.sort) ∙ accepted← b (sound→ b o.sound) 0 (each-held b (place_of b tm)) w
