-- `bookfile::numbered::numbers_in` meets its contract.
use mathlib.Core.Path.{ap, ◌∙◌}
use Rattle.bookfile.specs.Versions.{size_of}
use Rattle.bookfile.proofs.numbered.numbers_in.Goals as goal

pub written_numbers-requires : goal.written_numbers-requires
written_numbers-requires c = c.requires ∙ ap size_of c.in-Two.is

pub returns-in-One : goal.returns-in-One
returns-in-One c = rw c.in-One.is c.place_numbers.ensures

pub returns-in-Two : goal.returns-in-Two
returns-in-Two c = rw c.in-Two.is c.written_numbers.ensures
