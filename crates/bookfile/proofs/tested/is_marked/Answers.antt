-- `bookfile::tested::is_marked` meets its contract.
use Rattle.sums.specs.Sum.{all}
use Rattle.bookfile.proofs.tested.is_marked.Goals as goal

pub returns : goal.returns
unfolding all
returns c = rw c.version_byte.ensures
