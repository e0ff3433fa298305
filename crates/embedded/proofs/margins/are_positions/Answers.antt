-- `embedded::margins::are_positions` meets its contract.
use mathlib.Core.Path.{sym}
use borrow.Author.Tests.{ne_eqb, lt-leb}
use lib.Dec.{eqb}
use lib.ListN.{length}
use Rattle.sums.proofs.Choices.{and-left-fails, and-right-fails}
use Rattle.embedded.proofs.Making.{right, all_known}
use Rattle.embedded.proofs.margins.are_positions.Goals as goal

pub returns-then-sides-products : goal.returns-then-sides-products
returns-then-sides-products c = sym (and-left-fails _ _ (ne_eqb _ _ c.if-sides-products.true))

pub returns-then-notionals-products : goal.returns-then-notionals-products
returns-then-notionals-products c =
    let a = c.args in
    sym (and-right-fails (eqb (length a.sides.now) (length a.products.now)) _ (and-left-fails _ _ (ne_eqb _ _ c.if-notionals-products.true)))

pub returns-then-products-gt-MOST : goal.returns-then-products-gt-MOST
returns-then-products-gt-MOST c =
    let a = c.args in
    sym (and-right-fails (eqb (length a.sides.now) (length a.products.now)) _
    (and-right-fails (eqb (length a.notionals.now) (length a.products.now)) _ (and-left-fails _ _ (lt-leb _ _ c.if-products-gt-MOST.true))))

pub returns : goal.returns
returns c =
    let a = c.args in
    right a.products.now a.sides.now a.notionals.now c.if-sides-products.false c.if-notionals-products.false c.if-products-gt-MOST.false (all_known _ _ c.sides_known.ensures)
