-- The shape of a book goes by no rule (K7).
use Rattle.rows.specs.declared.Rule.{Rule}
use Rattle.rows.specs.declared.Book.{Book}
use Rattle.rows.specs.Rows.{view_by}
use Rattle.rows.specs.Facts.{Shaped}

pub shaped-by : (rule other : Rule) (b : Book) → Shaped (view_by rule b) → Shaped (view_by other b)
shaped-by rule other b s = record { some = s.some; top = s.top; sorts = s.sorts; tms = s.tms }
