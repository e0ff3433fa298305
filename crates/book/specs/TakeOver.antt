-- Document 02, K7: "One more call takes a book over to the new rule"; K8: it "stays, judges the book by the old rule as before, and no longer asks for
-- cover by the new."
use Rattle.std.specs.Prelude.{Bool, not, ◌&&◌, List, [], ◌∷◌, ℕ}
use Rattle.sums.specs.Choice.{unless_refused}
use Rattle.sums.specs.Table.{Line, ◌when◌, first}
use Rattle.rows.specs.declared.Book.{Book}
use Rattle.rows.specs.declared.Rule.TheVariants.{Old}
use Rattle.rows.specs.Rows.{view, with_needs}
use Rattle.rows.specs.KeptNeeds.{needs_afresh}
use Rattle.book.specs.Sound.{formed_b, kept_by, covered_by}

-- "judges the book by the old rule as before": well formed, its needs kept and the CM covered by that rule
unfoldable pub sound_by_the_old : Book → Bool
sound_by_the_old b = formed_b b && kept_by Old b && covered_by Old b

-- "1 and the same book if it isn't sound by the old rule"
abbrev pub take_over_refusals : Book → List Line
take_over_refusals b = (1 when not (sound_by_the_old b)) ∷ []

-- that number, or 0
unfoldable pub take_over_refusal : Book → ℕ
take_over_refusal b = first (take_over_refusals b)

-- "otherwise the book with its kept needs worked out afresh and nothing else changed"
abbrev pub needs_renewed : Book → Book
needs_renewed b = with_needs b (needs_afresh (view b))

-- the book after the call
unfoldable pub taken_over : Book → Book
taken_over b = unless_refused (take_over_refusal b) (needs_renewed b) (λ n. b)
