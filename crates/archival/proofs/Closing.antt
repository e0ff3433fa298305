-- A sound book can be closed up, and the table after it is the archived book's.
use mathlib.Core.Bool.{Bool, true, false}
use mathlib.Core.Logic.{inl, inr}
use mathlib.Core.Path.{◌≡◌, refl, ap, ◌∙◌}
use Prim.Native.Nat.{ℕ, ◌≤◌, ◌<◌}
use native.Mathlib.Omega.{arith}
use native.Mathlib.Decide.{ℕ_discrete, dec_lt}
use lib.Dec.{eqb}
use lib.ListN.{length, get_or-eq_default}
use Rattle.rows.specs.declared.Book.{Book}
use Rattle.rows.specs.Rows.{row_at, mode_at, need_at, view}
use Rattle.rows.proofs.KeptNeeds.{kept-none}
use Rattle.table.specs.declared.Table.{Table}
use Rattle.table.specs.Words.{turned, turned_back}
use Rattle.table.specs.Facts.{Sized}
use Rattle.table.proofs.Turning.{turned-from}
use Rattle.book.specs.Facts.{Sound, MayBeOn}
use Rattle.gaps.specs.Gaps.{archived}
use Rattle.gaps.specs.Inner.{Closable}

module _ (b : Book) (s : Sound b) where
  pub tm-low : (i : ℕ) → i < b.count → (row_at b i).tm ≤ i
  tm-low i l = by (ℕ_discrete (row_at b i).sort 2)
    where
      by : Dec ((row_at b i).sort ≡ 2) → (row_at b i).tm ≤ i
      by (yes e) = omega (arith, (s.shaped.tms i l e).0)
      by (no e) = omega (arith, s.no-tm i l e)

  mode-off : length b.modes ≡ 256 → (i : ℕ) → b.count ≤ i → mode_at b i ≡ false
  mode-off z i l = by (dec_lt i 256) (mode_at b i) refl
    where
      may : MayBeOn b i → ⊥
      may (inl e) = omega (arith, s.shaped.some)
      may (inr e) = let one = e.0 in omega (arith, ap (λ r. r.sort) (s.blank i l))

      by : Dec (i < 256) → (t : Bool) → mode_at b i ≡ t → mode_at b i ≡ false
      by (yes q) true e = absurd (may (s.modes i q e))
      by (yes q) false e = e
      by (no q) t e = get_or-eq_default b.modes false (omega arith)

  need-none : length b.needs ≡ 256 → (i : ℕ) → b.count ≤ i → need_at b i ≡ 0
  need-none z i l = by (dec_lt i 256)
    where
      by : Dec (i < 256) → need_at b i ≡ 0
      by (yes q) = s.kept i q ∙ kept-none (view b) i (λ e. omega (arith, s.shaped.some)) (ap (λ r. eqb r.sort 1) (s.blank i l))
      by (no q) = get_or-eq_default b.needs 0 (omega arith)

-- what closing up asks
pub sound-closable : (t : Table) → Sound (turned_back t) → length t.modes ≡ 256 → length t.needs ≡ 256 → Closable (turned_back t)
sound-closable t s zm zn =
    let b = turned_back t in
    record {
      most = s.most;
      rows = s.table;
      modes = zm;
      needs = zn;
      numbers = s.numbered.wide;
      tms = tm-low b s;
      no-row = s.blank;
      no_mode = mode-off b s zm;
      no-need = need-none b s zn;
      no_number = s.numbered.beyond;
    }

-- THE LAW: the table closed up
pub closed-table : (t u : Table) → Sized u.marks u.amounts → turned_back u ≡ archived (turned_back t) → u ≡ turned (archived (turned_back t))
closed-table t u z e = turned-from u (archived (turned_back t)) z e
