-- What a change that a record makes says of the record and the book.
use mathlib.Core.Bool.{Bool, true, false, not}
use mathlib.Core.List.{List}
use mathlib.Core.Logic.{◌⊎◌, inl, inr}
use mathlib.Core.Path.{◌≡◌, refl, sym, ap, ◌∙◌}
use Prim.Native.Nat.{ℕ, zero, suc, ◌≤◌, ◌<◌}
use native.Mathlib.Omega.{arith}
use lib.Dec.{leb}
use borrow.Author.Tests.{leb-false}
use Rattle.sums.specs.Choice.{pick, unless_refused}
use Rattle.sums.specs.Table.{Line, first}
use Rattle.sums.proofs.Choices.{pick_no, or-fails}
use Rattle.sums.proofs.Tables.{From, first-from, first-later}
use Rattle.rows.specs.declared.Row.{Row}
use Rattle.rows.specs.declared.Book.{Book}
use Rattle.rows.specs.Rows.{opened_row}
use Rattle.book.specs.Facts.{Sound}
use Rattle.book.proofs.SoundTest.{sound←}
use Rattle.dayfile.specs.declared.Record.{Record}
use Rattle.rules.specs.declared.Change.{Change}
use Rattle.rules.specs.declared.Change.TheVariants.{Refuse, Put, Open}
use Rattle.rules.specs.Refusals.{is_opening, named_row, beside_of, refusal_of}
use Rattle.rules.specs.Effects.{amended, effect_of, change_of}
use Rattle.rules.proofs.WhatIsBeside.{refusals_by}
use Rattle.rules.proofs.Passing.{Passes, passes-all}

-- a change other than a refusal is made where no refusal applies
abbrev is_refusal : Change → ℕ
is_refusal (Refuse n) = 1
is_refusal (Put x) = 0
is_refusal (Open x) = 0

no-refusal : (b : Book) (r : Record) → is_refusal (change_of b r) ≡ 0 → refusal_of b r ≡ 0
unfolding change_of
no-refusal b r = by (refusal_of b r)
  where
    by : (n : ℕ) → is_refusal (unless_refused n (effect_of (named_row b r) r.account r) Refuse) ≡ 0 → n ≡ 0
    by zero h = refl
    by (suc n) h = absurd (omega arith)

-- the table past 1
abbrev rest : Book → Record → List Line
rest b r = refusals_by (named_row b r) b.count b.next b.serial (beside_of b r) r

module _ (b : Book) (r : Record) (x : Row) where
  pub put-passes : change_of b r ≡ Put x → Passes b r
  put-passes e = passes-all b r (no-refusal b r (ap is_refusal e))

  pub open-passes : change_of b r ≡ Open x → Passes b r
  open-passes e = passes-all b r (no-refusal b r (ap is_refusal e))

  -- what is made where no refusal applies
  pub passes-as : Passes b r → refusal_of b r ≡ 0 → change_of b r ≡ effect_of (named_row b r) r.account r
  unfolding change_of
  passes-as p e = ap (λ n. unless_refused n (effect_of (named_row b r) r.account r) Refuse) e

  -- an account is opened where a row is left, and a number
  pub open-left : change_of b r ≡ Open x → (b.count < 256) × (b.next < 65536)
  open-left e = by (is_opening r) refl
    where
      p : Passes b r
      p = open-passes e

      by : (t : Bool) → is_opening r ≡ t → (b.count < 256) × (b.next < 65536)
      by true q =
          let h = or-fails (leb 256 b.count) (leb 65536 b.next) (rw q at p.number) in
          (leb-false _ _ h.0, leb-false _ _ h.1)
      by false q = absurd (apart (sym e ∙ passes-as p (no-refusal b r (ap is_refusal e)) ∙ other q))
        where
          apart : Open x ≡ Put (amended (named_row b r) r) → ⊥
          apart h = let z : ◌≡◌ {A = ℕ} 0 1 = cc in omega arith

          other : is_opening r ≡ false → effect_of (named_row b r) r.account r ≡ Put (amended (named_row b r) r)
          other h = pick_no (is_opening r) _ _ h

  pub open-below : change_of b r ≡ Open x → b.count < 256
  open-below e = (open-left e).0

-- the row that is put, or opened
module _ (b : Book) (r : Record) (x : Row) where
  pub made-put : change_of b r ≡ Put x → x ≡ amended (named_row b r) r
  unfolding pick
  made-put e = by (is_opening r) (sym e ∙ passes-as b r x (put-passes b r x e) (no-refusal b r (ap is_refusal e)))
    where
      by : (t : Bool) → Put x ≡ pick t (Open (opened_row r.code r.account)) (Put (amended (named_row b r) r)) → x ≡ amended (named_row b r) r
      by true h = let z : ◌≡◌ {A = ℕ} 0 1 = cc in absurd (omega arith)
      by false h = cc

  pub made-open : change_of b r ≡ Open x → x ≡ opened_row r.code r.account
  unfolding pick
  made-open e = by (is_opening r) (sym e ∙ passes-as b r x (open-passes b r x e) (no-refusal b r (ap is_refusal e)))
    where
      by : (t : Bool) → Open x ≡ pick t (Open (opened_row r.code r.account)) (Put (amended (named_row b r) r)) → x ≡ opened_row r.code r.account
      by true h = cc
      by false h = let z : ◌≡◌ {A = ℕ} 0 1 = cc in absurd (omega arith)

  pub only-openings : change_of b r ≡ Open x → is_opening r ≡ true
  unfolding pick
  only-openings e = by (is_opening r) (sym e ∙ passes-as b r x (open-passes b r x e) (no-refusal b r (ap is_refusal e)))
    where
      by : (t : Bool) → Open x ≡ pick t (Open (opened_row r.code r.account)) (Put (amended (named_row b r) r)) → t ≡ true
      by true h = refl
      by false h = let z : ◌≡◌ {A = ℕ} 0 1 = cc in absurd (omega arith)

  pub never-openings : change_of b r ≡ Put x → is_opening r ≡ false
  unfolding pick
  never-openings e = by (is_opening r) (sym e ∙ passes-as b r x (put-passes b r x e) (no-refusal b r (ap is_refusal e)))
    where
      by : (t : Bool) → Put x ≡ pick t (Open (opened_row r.code r.account)) (Put (amended (named_row b r) r)) → t ≡ false
      by true h = let z : ◌≡◌ {A = ℕ} 0 1 = cc in absurd (omega arith)
      by false h = refl

-- a sound book never meets refusal 1
pub never-one : (b : Book) (r : Record) → Sound b → refusal_of b r ≡ 1 → ⊥
unfolding refusal_of
never-one b r s e =
    none (first-from 3 (rest b r) from-three) (sym (first-later 1 _ (rest b r) (ap not (sound← b s))) ∙ e)
  where
    none : (first (rest b r) ≡ 0) ⊎ (3 ≤ first (rest b r)) → first (rest b r) ≡ 1 → ⊥
    none (inl q) h = omega arith
    none (inr q) h = omega arith

    from-three : From 3 (rest b r)
    from-three = (
      omega arith,
      (
        omega arith,
        (
          omega arith,
          (
            omega arith,
            (
              omega arith,
              (
                omega arith,
                (
                  omega arith,
                  (omega arith, (omega arith, (omega arith, (omega arith, (omega arith, (omega arith, tt)))))),
                ),
              ),
            ),
          ),
        ),
      ),
    )

-- a refusal has a number
pub refuse-some : (b : Book) (r : Record) (n : ℕ) → change_of b r ≡ Refuse n → n ≡ 0 → ⊥
unfolding change_of pick
refuse-some b r n = by (refusal_of b r)
  where
    by : (m : ℕ) → unless_refused m (effect_of (named_row b r) r.account r) Refuse ≡ Refuse n → n ≡ 0 → ⊥
    by zero h z = passes-not (is_opening r) h
      where
        passes-not : (t : Bool) → pick t (Open (opened_row r.code r.account)) (Put (amended (named_row b r) r)) ≡ Refuse n → ⊥
        passes-not true q = let z : ◌≡◌ {A = ℕ} 0 1 = cc in omega arith
        passes-not false q = let z : ◌≡◌ {A = ℕ} 0 1 = cc in omega arith
    by (suc m) h z = let e : suc m ≡ n = cc in omega arith

pub refuse-number : (b : Book) (r : Record) (n : ℕ) → change_of b r ≡ Refuse n → refusal_of b r ≡ n
unfolding change_of pick
refuse-number b r n = by (refusal_of b r)
  where
    by : (m : ℕ) → unless_refused m (effect_of (named_row b r) r.account r) Refuse ≡ Refuse n → m ≡ n
    by zero h = absurd (passes-not (is_opening r) h)
      where
        passes-not : (t : Bool) → pick t (Open (opened_row r.code r.account)) (Put (amended (named_row b r) r)) ≡ Refuse n → ⊥
        passes-not true q = let z : ◌≡◌ {A = ℕ} 0 1 = cc in omega arith
        passes-not false q = let z : ◌≡◌ {A = ℕ} 0 1 = cc in omega arith
    by (suc m) h = cc
