-- Nothing under an account of a sound book is more than 256 ceilings, and in tenths than 2560.
use mathlib.Core.Bool.{true}
use mathlib.Core.List.{List}
use Prim.Native.Nat.{ℕ, ◌≤◌}
use lib.ListN.{get_or}
use Rattle.rows.specs.declared.Rule.TheVariants.{New}
use Rattle.rows.specs.declared.Book.{Book}
use Rattle.rows.specs.Rows.{ceiling, view}
use Rattle.rows.specs.DeemedUnder.{DeemedUnder}
use Rattle.rows.specs.Inner.{in_tenths}
use Rattle.rows.proofs.Bounds.{under-cap, ranged-bounded, bounded-in}
use Rattle.rows.proofs.Tenths.{shaped_in}
use Rattle.book.specs.Facts.{Sound}
use Rattle.book.proofs.RowTests.{sound-ranged}

module _ (b : Book) (s : Sound b) (under : List ℕ) where
  pub under-most : DeemedUnder (view b) under → (i : ℕ) → get_or under i 0 ≤ 2_560_000_000_000_000
  under-most = under-cap (view b) ceiling (ranged-bounded New b (sound-ranged b s)) s.shaped under

  pub excess-most : DeemedUnder (in_tenths (view b)) under → (i : ℕ) → get_or under i 0 ≤ 25_600_000_000_000_000
  excess-most = under-cap (in_tenths (view b)) 100_000_000_000_000 (bounded-in true New b (sound-ranged b s)) (shaped_in true s.shaped) under
