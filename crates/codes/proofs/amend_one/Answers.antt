-- `codes::amend_one` meets its contract, likewise.
use mathlib.Core.List.{List}
use mathlib.Core.Path.{ap, ◌∙◌}
use Prim.Native.Nat.{ℕ}
use Rattle.codes.specs.Own.{deemed_under_in}
use Rattle.codes.specs.Asking.{names_margin}
use Rattle.codes.proofs.ByCode.{last_one, pledged-is, margin-is, pledge-answered, unpledge-answered, sets-margin, sets-pledged, revises-margin}
use Rattle.codes.proofs.amend_one.Goals as goal

pub pledge-requires : goal.pledge-requires
pledge-requires c =
    let s = c in
    let h = s.requires.0 in
    (h.size, h.inside, h.ranges _ h.inside, s.requires.1)

pub returns-in-8 : goal.returns-in-8
returns-in-8 c =
    let under : List ℕ =
    deemed_under_in c.args.w.now c.args.needs.now
    in
    λ count r q.
    let s = c in
    let k = q.0 ∙ c.in-8.is in
    let y = pledged-is r (ap names_margin k) in
    pledge-answered count s.args.marks.now s.args.w.now under s.args.on r k (rw (q.1, y ∙ q.2) c.pledge.ensures)

pub returns-in-9 : goal.returns-in-9
returns-in-9 c =
    let under : List ℕ =
    deemed_under_in c.args.w.now c.args.needs.now
    in
    λ count r q.
    let s = c in
    let k = q.0 ∙ c.in-9.is in
    let y = pledged-is r (ap names_margin k) in
    unpledge-answered count s.args.marks.now s.args.w.now under s.args.on r k (rw (q.1, y ∙ q.2) c.unpledge.ensures)

pub returns-in-10 : goal.returns-in-10
returns-in-10 c =
    let under : List ℕ =
    deemed_under_in c.args.w.now c.args.needs.now
    in
    λ count r q.
    let s = c in
    let k = q.0 ∙ c.in-10.is in
    let y = margin-is r (ap names_margin k) in
    sets-margin count s.args.marks.now s.args.w.now under s.args.on r k (rw (y ∙ q.2) s.requires.1) (rw (q.1, y ∙ q.2) c.set_margin.ensures)

pub returns-in-12 : goal.returns-in-12
returns-in-12 c =
    let under : List ℕ =
    deemed_under_in c.args.w.now c.args.needs.now
    in
    λ count r q.
    let s = c in
    let k = q.0 ∙ c.in-12.is in
    let y = pledged-is r (ap names_margin k) in
    sets-pledged count s.args.marks.now s.args.w.now under s.args.on r k (rw (q.1, y ∙ q.2) c.set_pledged.ensures)

pub returns-in_default : goal.returns-in_default
returns-in_default c =
    let under : List ℕ =
    deemed_under_in c.args.w.now c.args.needs.now
    in
    λ count r q.
    let s = c in
    let g = c.in_default.in_default-own.rest in
    let k = q.0 ∙ last_one s.args.code s.requires.2 g.0.0.0.1 g.0.0.1 g.0.1 g.1 in
    let y = margin-is r (ap names_margin k) in
    revises-margin count s.args.marks.now s.args.w.now under s.args.on r k (rw (q.1, y ∙ q.2) c.revise_margin.ensures)
