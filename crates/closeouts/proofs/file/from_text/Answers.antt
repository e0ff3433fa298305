use Rattle.std.proofs.Common.{ap}
use Rattle.closeouts.specs.LossLines.{says_losses}
use Rattle.closeouts.proofs.file.from_text.Goals as goal

pub returns-in-Ok-clause-readable : goal.returns-in-Ok-clause-readable
unfolding says_losses
returns-in-Ok-clause-readable c = ap says_losses c.in-Ok.ensures.result_value

pub returns-in-Err-clause-readable : goal.returns-in-Err-clause-readable
unfolding says_losses
returns-in-Err-clause-readable c = ap says_losses c.in-Err.ensures.result_value
