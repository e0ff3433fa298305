use Rattle.wording.proofs.Sofar.{text-came}
use Rattle.wording.proofs.in_words.Goals as goal

pub returns : goal.returns
returns c = text-came c.args.running c.in_pieces.ensures
