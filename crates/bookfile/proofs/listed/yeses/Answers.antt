-- `bookfile::listed::yeses` meets its contract.
use Rattle.std.proofs.Common.{rules, false}
use Rattle.bookfile.proofs.Filling.{made}
use Rattle.bookfile.proofs.listed.yeses.Goals as goal

pub returns : goal.returns
returns c = made _ _ _ (λ i x state call. search rules) c.from_fn.result false 256 c.from_fn.ensures.items
