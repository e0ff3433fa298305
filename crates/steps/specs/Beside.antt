-- What stands beside a table's own arrays once they are entered, and what making it asks of them. Only for internal functions.
use Rattle.std.specs.Prelude.{◌≡◌, ℕ, List, length}
use Rattle.rows.specs.Rows.{view}
use Rattle.rows.specs.Facts.{Shaped, NoneBeyond}
use Rattle.rows.specs.DeemedUnder.{DeemedUnder}
use Rattle.rows.specs.Modes.{looked}
use Rattle.rows.specs.Inner.{Ranged, in_tenths}
use Rattle.table.specs.declared.Marks.{Marks}
use Rattle.table.specs.Facts.{seen_book}
use Rattle.steps.specs.declared.Lent.{Lent}
use Rattle.steps.specs.Dues.{Keeps, AllRanging}

-- the book, as far as adding up and looking see it
pub record Enterable (count : ℕ) (m : Marks) (w : List ℕ) : Type 0 where
  pub ranged : Ranged (seen_book count m w)
  pub shaped : Shaped (view (seen_book count m w))
  pub beyond : NoneBeyond (view (seen_book count m w))
  pub ranging : AllRanging w

-- beside a table's own arrays stand each account's collateral, what is in excess under each, in tenths, and the modes that a look leaves where the book's are l's
pub record Enters (count : ℕ) (l k : Lent) : Type 0 where
  pub keeps : Keeps l.words k.kept
  pub in-excess : DeemedUnder (in_tenths (view (seen_book count l.marks l.words))) k.excess
  pub looks : k.modes ≡ looked (view (seen_book count l.marks l.words)) l.modes
  pub many : length l.modes ≡ 256
  pub wide : length l.needs ≡ 256
  pub rest : k ≡ record l { kept = k.kept; modes = k.modes; excess = k.excess }
