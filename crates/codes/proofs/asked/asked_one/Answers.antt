-- `codes::asked::asked_one` meets its contract.
use mathlib.Core.Path.{◌≡◌, sym, ◌∙◌}
use native.Mathlib.Omega.{arith}
use borrow.Author.Tests.{not-true, not-false}
use Rattle.dayfile.specs.Taking.{mark_of}
use Rattle.codes.proofs.Asking.{one-length}
use Rattle.codes.proofs.Heading.{one-unsuited, one-beyond, one-dead, one_passes}
use Rattle.codes.proofs.asked.asked_one.Goals as goal

pub returns-then-h-mark_of : goal.returns-then-h-mark_of
returns-then-h-mark_of c =
    let m = c in
    let s = m in
    one-unsuited _ _ _ s.requires.2 _ s.requires.1 (λ e. c.if-h-mark_of.true (e ∙ sym m.mark_of.ensures))

pub number8-y-requires : goal.number8-y-requires
number8-y-requires c =
    let marked : c.args.h.named ≡ mark_of c.args.h.code =
    c.if-h-mark_of.false ∙ c.mark_of.ensures
    in let s = c in omega (arith, s.requires.2.whole, one-length s.args.h.code s.args.h.named s.requires.1 marked)

pub returns-then-not-good_one : goal.returns-then-not-good_one
returns-then-not-good_one c =
    let marked : c.args.h.named ≡ mark_of c.args.h.code =
    c.if-h-mark_of.false ∙ c.mark_of.ensures
    in
    let g = c in
    let n = g in
    let e = n in
    let s = e in
    one-beyond _ _ _ s.requires.2 _ s.requires.1 marked _ n.number8-y.ensures (sym g.good_one.ensures ∙ not-true _ c.if-not-good_one.true-raw)

pub returns-then-not-alive : goal.returns-then-not-alive
returns-then-not-alive c =
    let marked : c.args.h.named ≡ mark_of c.args.h.code =
    c.if-h-mark_of.false ∙ c.mark_of.ensures
    in
    let a = c in
    let g = a in
    let n = g in
    let e = n in
    let s = e in
    one-dead _ _ _ s.requires.2 _ s.requires.1 marked _ n.number8-y.ensures (sym g.good_one.ensures ∙ not-false _ a.if-not-good_one.false-raw) (sym a.alive.ensures ∙ not-true _ c.if-not-alive.true-raw)

pub returns : goal.returns
returns c =
    let marked : c.args.h.named ≡ mark_of c.args.h.code =
    c.if-h-mark_of.false ∙ c.mark_of.ensures
    in
    let a = c in
    let g = a in
    let n = g in
    let e = n in
    let s = e in
    one_passes _ _ _ s.requires.2 _ s.requires.1 marked _ n.number8-y.ensures (sym g.good_one.ensures ∙ not-false _ a.if-not-good_one.false-raw) (sym a.alive.ensures ∙ not-false _ c.if-not-alive.false-raw)
