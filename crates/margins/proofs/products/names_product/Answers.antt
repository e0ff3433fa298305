-- `margins::products::names_product` meets its contract.
use Rattle.margins.proofs.Naming.{names}
use Rattle.margins.proofs.products.names_product.Goals as goal

pub returns : goal.returns
returns c = rw (c.is_all_capitals_or_digits.ensures, c.is_empty.ensures) (names c.args.word.now)
