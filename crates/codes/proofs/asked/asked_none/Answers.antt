-- `codes::asked::asked_none` meets its contract.
use mathlib.Core.Path.{sym, ◌∙◌}
use Rattle.codes.proofs.Heading.{none-unsuited, none-dead, none_passes}
use Rattle.codes.proofs.asked.asked_none.Goals as goal

pub returns-then-h-ne0 : goal.returns-then-h-ne0
returns-then-h-ne0 c = let s = c in none-unsuited _ _ _ s.requires.2 _ s.requires.1 c.if-h-ne0.true

pub returns-then-alive : goal.returns-then-alive
returns-then-alive c =
    let a = c in
    let s = a in
    none_passes _ _ _ s.requires.2 _ s.requires.1 a.if-h-ne0.false (sym a.alive.ensures ∙ c.if-alive.true)

pub returns-else-alive : goal.returns-else-alive
returns-else-alive c =
    let a = c in
    let s = a in
    none-dead _ _ _ s.requires.2 _ s.requires.1 a.if-h-ne0.false (sym a.alive.ensures ∙ c.if-alive.false)
