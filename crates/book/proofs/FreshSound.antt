-- A fresh book is sound: where every sequence of records starts.
use mathlib.Core.Path.{◌≡◌, refl, sym, ap, ◌∙◌}
use mathlib.Core.Bool.{true, false}
use Prim.Native.Nat.{ℕ, zero, suc, ◌≤◌, ◌<◌}
use native.Mathlib.Omega.{arith}
use native.Mathlib.Decide.{ℕ_discrete}
use lib.Dec.{eqb}
use Rattle.sums.specs.Choice.{pick}
use Rattle.sums.specs.Sum.{sum}
use Rattle.rows.specs.View.{need_cm}
use Rattle.rows.specs.Rows.{no_row, row_at, number_at, view, fresh_book}
use Rattle.rows.specs.KeptNeeds.{kept_need}
use Rattle.rows.proofs.KeptNeeds.{kept-none}
use Rattle.rows.specs.Ranges.{no_amounts}
use Rattle.rows.specs.Facts.{InRange}
use Rattle.book.specs.Sound.{sound_b}
use Rattle.book.specs.Facts.{Sound}
use Rattle.sums.proofs.Choices.{test-clash}
use Rattle.sums.proofs.Lists.{get_d-same}
use Rattle.book.proofs.SoundTest.{sound←}

-- account 0 is the only one
alone : (P : ℕ → Type 0) → P 0 → (i : ℕ) → i < 1 → P i
alone P p zero l = p
alone P p (suc i) l = absurd (omega arith)

pub fresh-sound : Sound fresh_book
unfolding sum need_cm fresh_book pick
fresh-sound = record {
  table = refl;
  most = omega arith;
  top-live = refl;
  blank = blank;
  shaped = record {
    some = omega arith;
    top = refl;
    sorts = λ i p l. absurd (omega arith);
    tms = alone (λ i. (row_at fresh_book i).sort ≡ 2 → ((row_at fresh_book i).tm < i) × ((row_at fresh_book (row_at fresh_book i).tm).sort ≡ 1)) (λ e. absurd (omega arith));
  };
  no-tm = alone (λ i. ((row_at fresh_book i).sort ≡ 2 → ⊥) → (row_at fresh_book i).tm ≡ 0) (λ ne. refl);
  tm-live = alone (λ i. (row_at fresh_book i).sort ≡ 2 → (row_at fresh_book i).live ≡ true → (row_at fresh_book (row_at fresh_book i).tm).live ≡ true) (λ e p. refl);
  retired = alone (λ i. (row_at fresh_book i).live ≡ false → no_amounts (row_at fresh_book i) ≡ true) (λ e. refl);
  ranges = alone (λ i. InRange (row_at fresh_book i)) (omega arith);
  numbered = record {
    wide = refl;
    top = refl;
    rises = λ i j h l. absurd (omega arith);
    below = alone (λ i. number_at fresh_book i < 1) (omega arith);
    last = omega arith;
    beyond = λ i h. get_d-same {A = ℕ} 256 i 0;
  };
  modes = λ i l e. test-clash e (get_d-same 256 i false);
  kept = λ i l. get_d-same {A = ℕ} 256 i 0 ∙ sym (none i (ℕ_discrete i 0));
}
  where
    blank : (i : ℕ) → 1 ≤ i → row_at fresh_book i ≡ no_row
    blank zero h = absurd (omega arith)
    blank (suc i) h = get_d-same 255 i no_row

    -- nothing is needed
    none : (i : ℕ) → Dec (i ≡ 0) → kept_need (view fresh_book) i ≡ 0
    none i (yes e) = rw e refl
    none i (no n) = kept-none (view fresh_book) i n (ap (λ r. eqb r.sort 1) (blank i (omega arith)))

pub fresh-test : sound_b fresh_book ≡ true
fresh-test = sound← fresh_book fresh-sound
