-- `numbers::number8` meets its contract, whether the library puts its bytes together or four pairs are added up.
use Rattle.std.proofs.Common.{arith}
use Rattle.numbers.proofs.Numbers.{number-eight, eight-bytes}
use Rattle.numbers.proofs.number8.Goals as goal

pub returns : goal.returns
returns c = grind (arith, number-eight, eight-bytes)
