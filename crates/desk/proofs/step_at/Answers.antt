-- `desk::step_at` meets its contract: a table's arrays are entered, and what the step leaves is the book after it, turned over.
use mathlib.Core.Path.{ap, ◌∙◌}
use borrow.Author.Rules.{rules}
use Rattle.table.specs.Facts.{Sized}
use Rattle.table.proofs.Turning.{turned-from}
use Rattle.rules.specs.Numbered.{act_of, record_after}
use Rattle.steps.specs.Steps.{book_in, refusal_shown, given_shown}
use Rattle.steps.proofs.Entering.{enterable, sound-enters}
use Rattle.desk.proofs.Doing.{stepped-over}
use Rattle.desk.proofs.step_at.Goals as goal

pub enter-at-requires : goal.enter-at-requires
enter-at-requires c = enterable _ c.requires record { sorts = search rules; lives = search rules; tms = search rules; words = search rules }

pub step-gone-requires : goal.step-gone-requires
step-gone-requires c =
    let sized : Sized c.args.t.marks c.args.t.amounts = record { sorts = search rules; lives = search rules; tms = search rules; words = search rules } in
    (sound-enters _ c.requires sized c.enter-at.ensures.at c.enter-at.ensures.enters).0

pub returns : goal.returns
returns c =
    let t = c.args.t in
    let sized : Sized c.args.t.marks c.args.t.amounts = record { sorts = search rules; lives = search rules; tms = search rules; words = search rules } in
    let left : Sized c.leave-table.result.marks c.leave-table.result.amounts = record { sorts = search rules; lives = search rules; tms = search rules; words = search rules } in
    let same = (sound-enters _ c.requires sized c.enter-at.ensures.at c.enter-at.ensures.enters).1 in
    let x = c.step-gone in
    let h = x.ensures in
    let r = c.args.r in
    stepped-over _ r c.requires _ _ _ _ c.outcome_of-outcome.ensures (h.refusal ∙ ap (λ b. refusal_shown (act_of b r)) same) (h.given ∙ ap (λ b. given_shown b.next (act_of b r)) same)
    (turned-from _ _ left (c.leave-table.ensures ∙ ap (λ p. book_in p t.modes x.new.l) c.on.ensures ∙ h.book ∙ ap (λ b. record_after b r) same))
