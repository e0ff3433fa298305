-- In a sound book no row held is left out, each line's figures are those of its row, and only a client's line names a TM.
use mathlib.Core.Bool.{Bool, true, false}
use mathlib.Core.List.{List}
use mathlib.Core.Path.{◌≡◌, refl, sym, ap, subst, ◌∙◌}
use Prim.Native.Nat.{ℕ, ◌<◌}
use lib.Dec.{eqb}
use lib.ListN.{length, get_or}
use native.Mathlib.Omega.{arith}
use borrow.Author.Tests.{lt-ltb}
use Rattle.sums.specs.Choice.{pick}
use Rattle.rows.specs.declared.Row.{Row}
use Rattle.rows.specs.declared.Book.{Book}
use Rattle.book.specs.declared.Figures.{Figures}
use Rattle.rows.specs.View.{need, blocked, deemed, free}
use Rattle.rows.specs.Rows.{collateral, row_at, mode_at, number_at, place_of, view, is_live}
use Rattle.rows.specs.Facts.{InRange}
use Rattle.table.specs.declared.Table.{Table}
use Rattle.table.specs.Words.{row_in, turned_back}
use Rattle.table.proofs.Gathered.{row-in}
use Rattle.lookup.proofs.Places.{place_found}
use Rattle.book.specs.Sound.{sound_b}
use Rattle.book.specs.Asked.{figures_of, no_figures, standing_of}
use Rattle.book.specs.Facts.{Sound}
use Rattle.book.proofs.SoundTest.{sound→}
use Rattle.book.proofs.RowTests.{sound-ranged}
use Rattle.book.proofs.StandingRefusals.{unsound-refused, dead-refused, live-answered, standing_by, shown}
use Rattle.report.specs.Reports.{accounts, line_at, lines_of, standings_text}
use Rattle.report.specs.declared.listing.Sheet.{Sheet}
use Rattle.report.specs.declared.listing.Sheet.TheVariants.{Standings, Holdings}
use Rattle.report.specs.Holdings.{holding_at}
use Rattle.report.specs.Inner.{figures_by, figures_from, Tested, Beside, Shown, line_by, line_of}

pub every-account : (b : Book) → Sound b → standings_text b ≡ lines_of (line_at b) b.count
unfolding standings_text
every-account b s = let e : accounts b.count ≡ b.count = omega (arith, s.most) in ap (lines_of (line_at b)) e

module _ (b : Book) (ok : sound_b b ≡ true) (i : ℕ) (held : i < b.count) where
  -- the number of a row held names that row
  pub number-names-row : place_of b (number_at b i) ≡ i
  number-names-row =
      let s = sound→ b ok in
      place_found b.numbers b.count (record { most = s.most; up = s.numbered.rises }) i held

  -- what its line shows: the row's figures, or none where it is retired
  pub figures-of-row : standing_of b (number_at b i) ≡ pick (row_at b i).live (figures_of (view b) (mode_at b i) i) (no_figures 7)
  unfolding pick
  figures-of-row = by (row_at b i).live refl
    where
      e : place_of b (number_at b i) ≡ i
      e = number-names-row

      live : (t : Bool) → (row_at b i).live ≡ t → is_live b (place_of b (number_at b i)) ≡ t
      live t q = ap (is_live b) e ∙ simp (lt-ltb i b.count held, q)

      by : (t : Bool) → (row_at b i).live ≡ t → standing_of b (number_at b i) ≡ pick t (figures_of (view b) (mode_at b i) i) (no_figures 7)
      by true q = sym (standing_by b (number_at b i) 0 (live-answered b (number_at b i) ok (live true q)) (ap (λ p. figures_of (view b) (mode_at b p) p) (sym e)))
      by false q = sym (standing_by b (number_at b i) 7 (dead-refused b (number_at b i) ok (live false q)) refl)

  -- "its TM or 0"
  pub no-client-no-tm : ((row_at b i).sort ≡ 2 → ⊥) → number_at b (row_at b i).tm ≡ 0
  no-client-no-tm h = let s = sound→ b ok in ap (number_at b) (s.no-tm i held h) ∙ s.numbered.top

-- the figures of a row held, by its need and its mode
from-need : (b : Book) → Sound b → (i n : ℕ) → n ≡ need (view b) i → figures_from (collateral (row_at b i)) n (mode_at b i) (eqb i 0) ≡ figures_of (view b) (mode_at b i) i
from-need b s i n e =
    let v = view b in
    rw e (ap (λ (x : ℕ). record { refusal = 0; collateral = v.collateral i; need = need v i; blocked = blocked v i; deemed = deemed v i; free = free v i; mode = mode_at b i; shortfall = x }) (shown v s.shaped i))

-- so a book that was tested once gives each row's standing
pub tested-standing : (b : Book) (sound : Bool) (needs : List ℕ) → Tested b sound needs → (i : ℕ) → i < length needs
    → figures_by sound (row_at b i) (get_or needs i 0) (mode_at b i) (eqb i 0) ≡ standing_of b (number_at b i)
unfolding pick
tested-standing b false needs h i l = standing_by b (number_at b i) 1 (unsound-refused b (number_at b i) h.is) refl
tested-standing b true needs h i l =
    ap (λ (f : Figures). pick (row_at b i).live f (no_figures 7)) (from-need b (sound→ b h.is) i _ (h.each refl i l))
    ∙ sym (figures-of-row b h.is i (omega (arith, h.held refl)))

-- each row's amounts in range
sound-range : (t : Table) → sound_b (turned_back t) ≡ true → (i : ℕ) → i < t.count → InRange (row_in t.marks t.amounts i)
sound-range t e i l =
    let s = sound→ (turned_back t) e in
    subst InRange (row-in t.marks t.amounts i (omega (arith, s.most))) ((sound-ranged _ s).ranges i l)

module _ (t : Table) (sound : Bool) (list : List ℕ) where
  -- what a row's line asks of it
  pub row-shown : (sheet : Sheet) → Beside sheet (turned_back t) sound list → (i : ℕ) → i < length list
      → Shown sheet sound (row_in t.marks t.amounts i) (get_or list i 0)
  row-shown Standings h i l = λ e. sound-range t (h.is ∙ e) i (omega (arith, h.held e))
  row-shown Holdings h i l = (sound-range t h.is i (omega (arith, h.held)), h.most i l)

  -- by what the list has beside it, it is the line of the row at place i
  pub line-is : (sheet : Sheet) → Beside sheet (turned_back t) sound list → (i : ℕ) {number tm : ℕ} {r : Row} → i < length list → i < 256
      → number ≡ get_or t.numbers i 0 → r ≡ row_in t.marks t.amounts i → tm ≡ get_or t.numbers r.tm 0
      → line_by sheet number r tm sound (get_or list i 0) (get_or t.modes i false) (eqb i 0) ≡ line_of sheet (turned_back t) i
  unfolding line_at holding_at
  line-is Standings h i l k n r m = let e = row-in t.marks t.amounts i k in let q = tested-standing (turned_back t) sound list h i l in cc
  line-is Holdings h i l k n r m = let e = row-in t.marks t.amounts i k in let q = h.each i l in cc
