use Rattle.merging.proofs.number_of.Goals as goal

pub returns-in-Bad : goal.returns-in-Bad
returns-in-Bad c = simp c.in-Bad.is
