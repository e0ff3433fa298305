use Rattle.std.proofs.Common.{◌∙◌}
use Rattle.steps.proofs.following.due_at.Goals as goal

pub returns : goal.returns
returns c =
    let l = c in
    c.due_of.ensures ∙ rw (l.less.ensures, l.word_at-m.ensures)
