-- K5, no taking out under risk reduction: document 02's sentences as theorems. From K8 on code 12, which sets pledged to a new value, may lower it, and no other record does. When 17 is given, exactly: `given-exactly-when` of DemandTwo.
use mathlib.Core.Bool.{true, ◌||◌}
use mathlib.Core.List.{List, [], ◌∷◌}
use mathlib.Core.Logic.{◌⊎◌, inl, inr}
use mathlib.Core.Path.{◌≡◌, ap, ◌∙◌}
use Prim.Native.Nat.{ℕ, ◌≤◌, ◌<◌}
use native.Mathlib.Omega.{arith}
use lib.Dec.{eqb}
use borrow.Author.Tests.{eqb-true}
use Rattle.sums.proofs.Choices.{and_split, or_split}
use Rattle.rows.specs.declared.Rule.TheVariants.{New}
use Rattle.rows.specs.declared.Book.{Book}
use Rattle.rows.specs.Rows.{place_of, row_at, mode_at, collateral}
use Rattle.rows.proofs.Counted.{counted-rises}
use Rattle.book.proofs.SoundTest.{sound→}
use Rattle.dayfile.specs.declared.Record.{Record}
use Rattle.rules.specs.Numbered.{placed, row_named, verdict_of}
use Rattle.rules.proofs.HeldByMode.{held-by-17, sound-at-17, given-at-17}
use Rattle.desk.specs.Steps.{step_of}
use Rattle.desk.proofs.Lasting.{count-stays}
use Rattle.desk.proofs.TakingOut.{nothing-out}
use Rattle.promises.proofs.Modes.{only-a-live-TM-or-the-CM}
use Rattle.promises.specs.Sequences.{after_all, EachCode, OnBeforeEach, NothingTakenOut}

-- 17 is given for release (7) and unpledge (9) alone, from the account of the CM (0) or of a live TM (sort 1) whose mode is on before the record; so hand
-- back never meets it.
pub seventeen-only-for : (b : Book) (r : Record) → verdict_of b r ≡ 17
    → ((r.code ≡ 7) ⊎ (r.code ≡ 9)) × (mode_at b (place_of b r.account) ≡ true) × ((place_of b r.account ≡ 0) ⊎ (((row_named b r).sort ≡ 1) × ((row_named b r).live ≡ true)))
seventeen-only-for b r e =
    let held = and_split (eqb r.code 7 || eqb r.code 9) (mode_at b (place_of b r.account)) (held-by-17 b (placed b r) e) in
    (which (or_split (eqb r.code 7) (eqb r.code 9) held.0), held.1, only-a-live-TM-or-the-CM b (sound-at-17 b (placed b r) e) (place_of b r.account) (omega (arith, given-at-17 b (placed b r) e, (sound→ b (sound-at-17 b (placed b r) e)).most)) held.1)
  where
    which : (eqb r.code 7 ≡ true) ⊎ (eqb r.code 9 ≡ true) → (r.code ≡ 7) ⊎ (r.code ≡ 9)
    which (inl q) = inl (eqb-true r.code 7 q)
    which (inr q) = inr (eqb-true r.code 9 q)

-- "Clients' own releases go on: their money isn't the member's.": a record that names a client (sort 2) or a CP (sort 3) never meets 17.
pub clients'-and-CPs'-never-meet-17 : (b : Book) (r : Record) → ((row_named b r).sort ≡ 2) ⊎ ((row_named b r).sort ≡ 3) → verdict_of b r ≡ 17 → ⊥
clients'-and-CPs'-never-meet-17 b r c e = by c (seventeen-only-for b r e).2
  where
    top : place_of b r.account ≡ 0 → (row_named b r).sort ≡ 0
    top z = ap (λ i. (row_at b i).sort) z ∙ (sound→ b (sound-at-17 b (placed b r) e)).shaped.top

    by : ((row_named b r).sort ≡ 2) ⊎ ((row_named b r).sort ≡ 3) → (place_of b r.account ≡ 0) ⊎ (((row_named b r).sort ≡ 1) × ((row_named b r).live ≡ true)) → ⊥
    by (inl q) (inl z) = omega (arith, q, top z)
    by (inl q) (inr z) = omega (arith, q, z.0)
    by (inr q) (inl z) = omega (arith, q, top z)
    by (inr q) (inr z) = omega (arith, q, z.0)

-- "a TM or the CM that is in the mode .. keep its own proprietary collateral in": no record but code 12 takes anything out of an account whose mode is on before it, ..
pub no-record-but-12-takes-anything-out : (b : Book) (r : Record) → (r.code ≡ 12 → ⊥) → (i : ℕ) → i < b.count → mode_at b i ≡ true
    → NothingTakenOut (row_at b i) (row_at (step_of b r).book i)
no-record-but-12-takes-anything-out = nothing-out

-- .. and while the mode stays on no sequence of them does, ..
pub no-sequence-without-12-takes-anything-out : (b : Book) (rs : List Record) → EachCode (λ n. n ≡ 12 → ⊥) rs → (i : ℕ) → i < b.count → OnBeforeEach b i rs
    → NothingTakenOut (row_at b i) (row_at (after_all b rs) i)
unfolding EachCode OnBeforeEach after_all
no-sequence-without-12-takes-anything-out b [] c i l on = ((omega arith, omega arith, omega arith, omega arith), omega arith)
no-sequence-without-12-takes-anything-out b (r ∷ rs) c i l on =
    let one = nothing-out b r c.0 i l on.0 in
    let more = no-sequence-without-12-takes-anything-out (step_of b r).book rs c.1 i (omega (arith, count-stays b r)) on.1 in
    ((omega (arith, one, more), omega (arith, one, more), omega (arith, one, more), omega (arith, one, more)), omega (arith, one, more))

-- .. so that its collateral never falls.
pub its-collateral-falls-by-12-alone : (b : Book) (rs : List Record) → EachCode (λ n. n ≡ 12 → ⊥) rs → (i : ℕ) → i < b.count → OnBeforeEach b i rs
    → collateral (row_at b i) ≤ collateral (row_at (after_all b rs) i)
its-collateral-falls-by-12-alone b rs c i l on =
    let out = no-sequence-without-12-takes-anything-out b rs c i l on in
    omega (arith, out, counted-rises New (row_at b i).allocated.securities (row_at (after_all b rs) i).allocated.securities (omega (arith, out)))
