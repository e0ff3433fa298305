-- The table of refusals with 13 as it was before K6: for any new margin. Only the theorem that no refusal moved speaks of it.
use Rattle.std.specs.Prelude.{Bool, ◌&&◌, List, [], ◌∷◌, ℕ, eqb}
use Rattle.sums.specs.Choice.{pick}
use Rattle.sums.specs.Table.{Line, ◌when◌}
use Rattle.rows.specs.declared.Book.{Book}
use Rattle.rows.specs.Rows.{view}
use Rattle.dayfile.specs.declared.Record.{Record}
use Rattle.rules.specs.Refusals.{need_passes, new_margin, refusals}
use Rattle.rules.specs.Numbered.{placed}

-- a table with another test at a number
abbrev pub with_test : ℕ → Bool → List Line → List Line
with_test n t [] = []
with_test n t (l ∷ rest) = (l.number when pick (eqb l.number n) t l.test) ∷ with_test n t rest

-- as `refusals`, but "13: after the new margin the CM's need would pass its collateral"
abbrev pub as_before : Book → Record → List Line
as_before b r = with_test 13 (eqb r.code 10 && need_passes (view (new_margin b (placed b r)))) (refusals b (placed b r))
