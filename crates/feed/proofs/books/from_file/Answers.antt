use Rattle.std.proofs.Common.{[], arith}
use Rattle.feed.proofs.books.from_file.Goals as goal

pub returns-then-read : goal.returns-then-read
returns-then-read c = record { file = []; bytes = λ i. omega arith; is = c.none.ensures }

pub returns : goal.returns
returns c = record { file = _; bytes = c.held.ensures.bytes; is = c.held.ensures.value }
