-- `codes::amend_only` meets its contract, as `amend_kinds` does.
use mathlib.Core.List.{List}
use mathlib.Core.Path.{◌∙◌}
use Prim.Native.Nat.{ℕ}
use Rattle.codes.specs.Own.{deemed_under_in}
use Rattle.codes.proofs.ByCode.{last-kinds, receive-answered, hands-back, allocate-answered, release-answered}
use Rattle.codes.proofs.OneKind.{only-most}
use Rattle.codes.proofs.amend_only.Goals as goal

pub receive_kind-requires : goal.receive_kind-requires
receive_kind-requires c =
    let s = c in
    let h = s.requires.0 in
    (h.size, h.inside, h.ranges _ h.inside, only-most s.args.kind s.args.x s.requires.1)

pub allocate_kind-requires : goal.allocate_kind-requires
allocate_kind-requires c =
    let s = c in
    let h = s.requires.0 in
    (h.size, h.inside, h.ranges _ h.inside, only-most s.args.kind s.args.x s.requires.1)

pub returns-in-4 : goal.returns-in-4
returns-in-4 c =
    let under : List ℕ =
    deemed_under_in c.args.w.now c.args.needs.now
    in
    λ count r q.
    let s = c in
    receive-answered count s.args.marks.now s.args.w.now under s.args.on r (q.0 ∙ c.in-4.is) (rw (q.1, q.2) c.receive_kind.ensures)

pub returns-in-5 : goal.returns-in-5
returns-in-5 c =
    let under : List ℕ =
    deemed_under_in c.args.w.now c.args.needs.now
    in
    λ count r q.
    let s = c in
    hands-back count s.args.marks.now s.args.w.now under s.args.on r (q.0 ∙ c.in-5.is) (rw (q.1, q.2) c.hand_back_kind.ensures)

pub returns-in-6 : goal.returns-in-6
returns-in-6 c =
    let under : List ℕ =
    deemed_under_in c.args.w.now c.args.needs.now
    in
    λ count r q.
    let s = c in
    allocate-answered count s.args.marks.now s.args.w.now under s.args.on r (q.0 ∙ c.in-6.is) (rw (q.1, q.2) c.allocate_kind.ensures)

pub returns-in_default : goal.returns-in_default
returns-in_default c =
    let under : List ℕ =
    deemed_under_in c.args.w.now c.args.needs.now
    in
    λ count r q.
    let s = c in
    let g = c.in_default.in_default-own.rest in
    release-answered count s.args.marks.now s.args.w.now under s.args.on r (q.0 ∙ last-kinds s.args.code s.requires.2 g.0.0.1 g.0.1 g.1) (rw (q.1, q.2) c.release_kind.ensures)
