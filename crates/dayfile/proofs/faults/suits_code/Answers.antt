-- `dayfile::records::suits_code` meets its contract.
use mathlib.Core.Path.{sym, ap, ◌∙◌}
use lib.Dec.{eqb}
use Rattle.dayfile.proofs.Judging.{kinds-suit, one-suits}
use Rattle.dayfile.proofs.faults.suits_code.Goals as goal

pub returns-then-names_kinds : goal.returns-then-names_kinds
returns-then-names_kinds c =
    let a = c.args in
    kinds-suit a.code a.named (sym c.names_kinds.ensures ∙ c.if-names_kinds.true)

pub returns : goal.returns
returns c =
    let start = c in
    let a = start.args in
    ap (eqb a.named) c.mark_of.ensures
    ∙ one-suits a.code a.named start.requires (sym c.names_kinds.ensures ∙ c.if-names_kinds.false)
