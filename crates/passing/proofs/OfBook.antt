-- What the limits of a sound book's account are made of, by what is kept beside the rows (K3).
use mathlib.Core.Bool.{Bool, false}
use mathlib.Core.List.{List}
use mathlib.Core.Path.{◌≡◌, refl, sym, ap, subst, ◌∙◌}
use Prim.Native.Nat.{ℕ, ◌≤◌, ◌<◌}
use native.Mathlib.Omega.{arith}
use native.Mathlib.Decide.{ℕ_discrete}
use lib.Dec.{ltb}
use lib.ListN.{get_or}
use Rattle.rows.specs.declared.Row.{Row}
use Rattle.rows.specs.declared.Book.{Book}
use Rattle.rows.specs.declared.Rule.TheVariants.{New}
use Rattle.rows.specs.View.{need_cm, free_of, free}
use Rattle.rows.specs.Rows.{row_at, need_at, collateral, account_of, view}
use Rattle.rows.specs.Facts.{InRange}
use Rattle.rows.specs.DeemedUnder.{need_by}
use Rattle.rows.proofs.Counted.{collateral-most}
use Rattle.rows.proofs.KeptNeeds.{need-by, kept-CM}
use Rattle.table.specs.declared.Marks.{Marks}
use Rattle.table.specs.Words.{row_in, book_from}
use Rattle.table.proofs.Gathered.{row-in}
use Rattle.book.specs.Facts.{Sound}
use Rattle.passing.specs.Inner.{raised_to, limits_of, limits_in, free_in, short_in, limits_by, Within}

module _ (b : Book) (s : Sound b) where
  free-kept : (i : ℕ) → i < b.count → free_of (need_by (account_of (row_at b i)) (need_at b i)) (collateral (row_at b i)) ≡ free (view b) i
  free-kept i l =
      ap (λ n. free_of (need_by (account_of (row_at b i)) n) (collateral (row_at b i))) (s.kept i (omega (arith, s.most)))
      ∙ ap (λ n. free_of n (collateral (row_at b i))) (sym (need-by (view b) s.shaped i l))

  short-kept : ltb (collateral (row_at b 0)) (need_at b 0) ≡ ltb ((view b).collateral 0) (need_cm (view b))
  short-kept = ap (ltb (collateral (row_at b 0))) (s.kept 0 (omega arith) ∙ kept-CM (view b))

  tm-inside : (i : ℕ) → i < b.count → (row_at b i).tm < b.count
  tm-inside i l = by (ℕ_discrete (row_at b i).sort 2)
    where
      by : Dec ((row_at b i).sort ≡ 2) → (row_at b i).tm < b.count
      by (yes e) = omega (arith, (s.shaped.tms i l e).0)
      by (no e) = omega (arith, s.no-tm i l e, s.shaped.some)

-- no more is free than there is
pub free-in-most : (m : Marks) (w needs : List ℕ) (i : ℕ) → InRange (row_in m w i) → free_in m w needs i ≤ 50_000_000_000_000
free-in-most m w needs i h = omega (arith, collateral-most New (row_in m w i) h)

-- the limits that the words give, put together
pub limits-from : (m : Marks) (w : List ℕ) (modes : List Bool) (needs : List ℕ) (i code named : ℕ) {row : Row} {own its top raised : ℕ} {short : Bool}
    → row ≡ row_in m w i → own ≡ free_in m w needs i → its ≡ free_in m w needs row.tm → top ≡ free_in m w needs 0 → short ≡ short_in m w needs
    → raised ≡ raised_to row.sort row.margin short own its top → limits_of code named row (get_or modes i false) own raised ≡ limits_by m w modes needs i code named
limits-from m w modes needs i code named {row} {own} {its} {top} {raised} {short} er eo ei et es e =
    ap (limits_of code named row (get_or modes i false) own) e
    ∙ ap (λ z. limits_of code named row (get_or modes i false) own (raised_to row.sort row.margin z own its top)) es
    ∙ ap (λ z. limits_of code named row (get_or modes i false) own (raised_to row.sort row.margin (short_in m w needs) own its z)) et
    ∙ ap (λ z. limits_of code named row (get_or modes i false) own (raised_to row.sort row.margin (short_in m w needs) own z (free_in m w needs 0))) ei
    ∙ ap (λ z. limits_of code named row (get_or modes i false) z (raised_to row.sort row.margin (short_in m w needs) z (free_in m w needs row.tm) (free_in m w needs 0))) eo
    ∙ ap (λ (z : Row). limits_of code named z (get_or modes i false) (free_in m w needs i) (raised_to z.sort z.margin (short_in m w needs) (free_in m w needs i) (free_in m w needs z.tm) (free_in m w needs 0))) er

-- by the words of a sound table
module _ (count serial : ℕ) (m : Marks) (w : List ℕ) (modes : List Bool) (needs : List ℕ) (next : ℕ) (numbers : List ℕ)
    (s : Sound (book_from count serial m w modes needs next numbers)) where
  abbrev b : Book
  b = book_from count serial m w modes needs next numbers

  row : (i : ℕ) → i < count → row_at b i ≡ row_in m w i
  row i l = row-in m w i (omega (arith, s.most))

  free-by : (i : ℕ) → i < count → free (view b) i ≡ free_in m w needs i
  free-by i l = sym (free-kept b s i l) ∙ ap (λ r. free_of (need_by (account_of r) (need_at b i)) (collateral r)) (row i l)

  short-by : ltb ((view b).collateral 0) (need_cm (view b)) ≡ short_in m w needs
  short-by = sym (short-kept b s) ∙ ap (λ r. ltb (collateral r) (need_at b 0)) (row 0 s.shaped.some)

  ranged : (i : ℕ) → i < count → InRange (row_in m w i)
  ranged i l = subst InRange (row i l) (s.ranges i l)

  module _ (i : ℕ) (l : i < count) where
    abbrev its : ℕ
    its = (row_at b i).tm

    pub within : Within m w i
    within = record {
      place = omega (arith, s.most);
      tm = subst (λ (r : Row). r.tm < 256) (row i l) (omega (arith, s.most, tm-inside b s i l));
      own = ranged i l;
      its = subst (λ (r : Row). InRange (row_in m w r.tm)) (row i l) (ranged its (tm-inside b s i l));
      top = ranged 0 s.shaped.some;
    }

    -- THE LAW: the limits by the words are the book's
    pub limits-by : (code named : ℕ) → limits_by m w modes needs i code named ≡ limits_in b i code named
    limits-by code named =
        sym (limits-from m w modes needs i code named (row i l) (free-by i l) (free-by its (tm-inside b s i l)) (free-by 0 s.shaped.some) short-by refl)
