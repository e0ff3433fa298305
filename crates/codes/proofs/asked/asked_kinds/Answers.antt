-- `codes::asked::asked_kinds` meets its contract.
use mathlib.Core.Path.{sym, ◌∙◌}
use borrow.Author.Tests.{not-true, not-false}
use Rattle.codes.proofs.Heading.{kinds-unsuited, kinds-beyond, kinds-dead, kinds-pass}
use Rattle.codes.proofs.asked.asked_kinds.Goals as goal

pub returns-then-not-h : goal.returns-then-not-h
returns-then-not-h c = let s = c in kinds-unsuited _ _ _ s.requires.2 _ s.requires.1 (not-true _ c.if-not-h.true-raw)

pub asked_only-requires : goal.asked_only-requires
asked_only-requires c = let s = c in (s.requires.0, s.requires.1, sym c.names_only.ensures ∙ c.if-names_only.true, s.requires.2)

pub returns-then-not-good_kinds : goal.returns-then-not-good_kinds
returns-then-not-good_kinds c =
    let g = c in
    let k = g in
    let e = k in
    let s = e in
    kinds-beyond _ _ _ s.requires.2 _ s.requires.1 (not-false _ e.if-not-h.false-raw) _ k.kinds_at-k.ensures (sym g.good_kinds.ensures ∙ not-true _ c.if-not-good_kinds.true-raw)

pub returns-then-not-alive : goal.returns-then-not-alive
returns-then-not-alive c =
    let a = c in
    let g = a in
    let k = g in
    let e = k in
    let s = e in
    kinds-dead _ _ _ s.requires.2 _ s.requires.1 (not-false _ e.if-not-h.false-raw) _ k.kinds_at-k.ensures (sym g.good_kinds.ensures ∙ not-false _ a.if-not-good_kinds.false-raw) (sym a.alive.ensures ∙ not-true _ c.if-not-alive.true-raw)

pub returns : goal.returns
returns c =
    let a = c in
    let g = a in
    let k = g in
    let e = k in
    let s = e in
    kinds-pass _ _ _ s.requires.2 _ s.requires.1 (not-false _ e.if-not-h.false-raw) _ k.kinds_at-k.ensures (sym g.good_kinds.ensures ∙ not-false _ a.if-not-good_kinds.false-raw) (sym a.alive.ensures ∙ not-false _ c.if-not-alive.false-raw)

pub returns-then-names_only : goal.returns-then-names_only
returns-then-names_only c = c.asked_only.ensures
