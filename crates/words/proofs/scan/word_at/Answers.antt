use Rattle.std.proofs.Common.{arith}
use Rattle.words.proofs.scan.word_at.Goals as goal

pub token_at-requires : goal.token_at-requires
token_at-requires c = omega arith
