-- `steps::following::lift` meets its contract.
use Rattle.std.proofs.Common.{◌≡◌, sym, ◌∙◌}
use borrow.Author.Tests.{not-false}
use Rattle.steps.specs.Dues.{due_risen}
use Rattle.steps.proofs.Lifting.{same-dues, mode-aside, mode-top, due-risen, fits-here, fits-top, small-risen, lifts, unlifted}
use Rattle.steps.proofs.following.lift.Goals as goal

pub due_at-after-requires : goal.due_at-after-requires
due_at-after-requires c = let p = c.requires in fits-here _ _ _ _ _ _ p.0 c.rise.ensures p.3 p.2

pub rise-requires-then-not-same_due : goal.rise-requires-then-not-same_due
rise-requires-then-not-same_due c =
    let p = c.requires in
    let after_is : c.due_at-after.result ≡ due_risen c.args.l.now c.args.t c.args.old c.args.new = c.due_at-after.ensures ∙ due-risen _ _ _ _ _ _ p.0 c.rise.ensures p.3 in
    (fits-top _ _ _ _ _ _ p.0 c.rise.ensures p.3 p.1.fits, rw after_is (small-risen _ _ _ _ _ _ p.0 c.rise.ensures p.3 p.2))

pub returns-then-not-same_due : goal.returns-then-not-same_due
returns-then-not-same_due c =
    let p = c.requires in
    let a = c.args in
    let after_is : c.due_at-after.result ≡ due_risen a.l.now a.t a.old a.new = c.due_at-after.ensures ∙ due-risen _ _ _ _ _ _ p.0 c.rise.ensures p.3 in
    lifts _ _ _ _ _ _ p.0 c.rise.ensures p.3 _ _ c.due_at-its.ensures after_is _ (mode-aside a.at.waiting a.was.now _ _ 0 (mode-top _ _ _ _ _ _ p.0 c.rise.ensures p.3)) _ c.rise-then-not-same_due.ensures

pub returns-else-not-same_due : goal.returns-else-not-same_due
returns-else-not-same_due c =
    let p = c.requires in
    let a = c.args in
    let after_is : c.due_at-after.result ≡ due_risen a.l.now a.t a.old a.new = c.due_at-after.ensures ∙ due-risen _ _ _ _ _ _ p.0 c.rise.ensures p.3 in
    unlifted _ _ _ _ _ _ p.0 c.rise.ensures p.3 p.1 (sym c.due_at-its.ensures ∙ same-dues (sym c.same_due.ensures ∙ not-false _ c.if-not-same_due.false-raw) ∙ after_is)
