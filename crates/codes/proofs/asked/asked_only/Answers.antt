-- `codes::asked::asked_only` meets its contract.
use mathlib.Core.Path.{sym, ap, ◌∙◌}
use native.Mathlib.Omega.{arith}
use borrow.Author.Tests.{not-true, not-false}
use Rattle.codes.specs.declared.asked.Asked.TheVariants.{Four}
use Rattle.codes.specs.OneKind.{only_kind}
use Rattle.codes.proofs.Asking.{only-length}
use Rattle.codes.proofs.Heading.{only-beyond, only-dead, only-passes}
use Rattle.codes.proofs.asked.asked_only.Goals as goal

pub number8-x-requires : goal.number8-x-requires
number8-x-requires c = let s = c in omega (arith, s.requires.3.whole, only-length s.args.h.named s.requires.2)

pub returns-then-not-good_named : goal.returns-then-not-good_named
returns-then-not-good_named c =
    let g = c in
    let n = g in
    let s = n in
    only-beyond _ _ _ s.requires.3 _ s.requires.1 s.requires.2 _ n.number8-x.ensures (sym g.good_named.ensures ∙ not-true _ c.if-not-good_named.true-raw)

pub returns-then-alive : goal.returns-then-alive
returns-then-alive c =
    let t = c in
    let a = t in
    let g = a in
    let n = g in
    let s = n in
    ap (λ q. Four (only_kind q n.number8-x.result)) c.kind_of.ensures
    ∙ only-passes _ _ _ s.requires.3 _ s.requires.1 s.requires.2 _ n.number8-x.ensures (sym g.good_named.ensures ∙ not-false _ a.if-not-good_named.false-raw) (sym a.alive.ensures ∙ t.if-alive.true)

pub returns-else-alive : goal.returns-else-alive
returns-else-alive c =
    let a = c in
    let g = a in
    let n = g in
    let s = n in
    only-dead _ _ _ s.requires.3 _ s.requires.1 s.requires.2 _ n.number8-x.ensures (sym g.good_named.ensures ∙ not-false _ a.if-not-good_named.false-raw) (sym a.alive.ensures ∙ c.if-alive.false)
