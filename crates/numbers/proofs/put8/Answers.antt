-- `numbers::put8` meets its contract.
use Rattle.std.proofs.Common.{◌∙◌}
use Rattle.numbers.proofs.Rooms.{copied}
use Rattle.numbers.proofs.put8.Goals as goal

pub returns : goal.returns
returns c = copied _ _ c.args.place 8 c.args.x (c.copy_from_slice.ensures.after ∙ c.to_be_bytes.ensures) c.requires
