-- `bookfile::listed::needs` meets its contract.
use Rattle.std.proofs.Common.{rules}
use Rattle.bookfile.proofs.Filling.{made}
use Rattle.bookfile.proofs.listed.needs.Goals as goal

pub returns : goal.returns
returns c = made _ _ _ (λ i x state call. search rules) c.from_fn.result 0 256 c.from_fn.ensures.items
