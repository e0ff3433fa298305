use Rattle.std.proofs.Common.{refl, length, ◌-◌}
use Rattle.streams.proofs.NamesPut.{two-put}
use Rattle.streams.proofs.beside.put_try.Goals as goal

pub returns : goal.returns
returns c = let l = c.args.name.now in two-put l c.args.tries (length l - 1) c.requires.0 refl
