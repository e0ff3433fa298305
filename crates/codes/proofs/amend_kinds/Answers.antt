-- `codes::amend_kinds` meets its contract: each code's own lines are what the table has for it.
use mathlib.Core.List.{List}
use mathlib.Core.Path.{◌∙◌}
use Prim.Native.Nat.{ℕ}
use Rattle.codes.specs.Own.{deemed_under_in}
use Rattle.codes.proofs.ByCode.{last-kinds, receive-answered, hands-back, allocate-answered, release-answered}
use Rattle.codes.proofs.amend_kinds.Goals as goal

pub receive-requires : goal.receive-requires
receive-requires c =
    let s = c in
    let h = s.requires.0 in
    (h.size, h.inside, h.ranges _ h.inside, s.requires.1)

pub allocate-requires : goal.allocate-requires
allocate-requires c =
    let s = c in
    let h = s.requires.0 in
    (h.size, h.inside, h.ranges _ h.inside, s.requires.1)

pub returns-in-4 : goal.returns-in-4
returns-in-4 c =
    let under : List ℕ =
    deemed_under_in c.args.w.now c.args.needs.now
    in
    λ count r q.
    let s = c in
    receive-answered count s.args.marks.now s.args.w.now under s.args.on r (q.0 ∙ c.in-4.is) (rw (q.1, q.2) c.receive.ensures)

pub returns-in-5 : goal.returns-in-5
returns-in-5 c =
    let under : List ℕ =
    deemed_under_in c.args.w.now c.args.needs.now
    in
    λ count r q.
    let s = c in
    hands-back count s.args.marks.now s.args.w.now under s.args.on r (q.0 ∙ c.in-5.is) (rw (q.1, q.2) c.hand_back.ensures)

pub returns-in-6 : goal.returns-in-6
returns-in-6 c =
    let under : List ℕ =
    deemed_under_in c.args.w.now c.args.needs.now
    in
    λ count r q.
    let s = c in
    allocate-answered count s.args.marks.now s.args.w.now under s.args.on r (q.0 ∙ c.in-6.is) (rw (q.1, q.2) c.allocate.ensures)

pub returns-in_default : goal.returns-in_default
returns-in_default c =
    let under : List ℕ =
    deemed_under_in c.args.w.now c.args.needs.now
    in
    λ count r q.
    let s = c in
    let g = c.in_default.in_default-own.rest in
    release-answered count s.args.marks.now s.args.w.now under s.args.on r (q.0 ∙ last-kinds s.args.code s.requires.2 g.0.0.1 g.0.1 g.1) (rw (q.1, q.2) c.release.ensures)
