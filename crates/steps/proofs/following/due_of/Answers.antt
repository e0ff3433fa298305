use Rattle.steps.proofs.following.due_of.Goals as goal

pub returns : goal.returns
returns c = rw (c.less.ensures, c.less-2.ensures)
