use Rattle.wording.proofs.Sofar.{failed-came, day-came}
use Rattle.wording.proofs.in_file.Goals as goal

pub returns-in-Ok : goal.returns-in-Ok
returns-in-Ok c = day-came c.args.running c.in_pieces.ensures

pub returns-in-Err : goal.returns-in-Err
returns-in-Err c = failed-came c.no_words.ensures
