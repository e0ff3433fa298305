-- `bookfile::reading::book_by` meets its contract.
use mathlib.Core.Path.{ap, ◌∙◌}
use native.Mathlib.Omega.{arith}
use Rattle.bookfile.specs.Reading.{next_in, numbers_in, book_by}
use Rattle.bookfile.proofs.Measures.{head-within}
use Rattle.bookfile.proofs.reading.book_by.Goals as goal

pub number2-count-requires : goal.number2-count-requires
number2-count-requires c = omega (arith, head-within c.args.v)

pub number2-requires : goal.number2-requires
number2-requires c = omega (arith, head-within c.args.v)

pub returns : goal.returns
unfolding book_by
returns c =
    let c9 = c in
    let c8 = c9 in
    let c7 = c8 in
    let c6 = c7 in
    let c5 = c6 in
    let c4 = c5 in
    let c3 = c4 in
    let c2 = c3 in
    let count = c2.number2-count.ensures in
    let a = c2.args in
    λ j. record {
      count = count j;
      serial = c2.number2.ensures j;
      marks = record {
        sort = c3.sorts.ensures j;
        live = c4.yeses.ensures j;
        tm = c5.tms.ensures j;
      };
      modes = c6.yeses-2.ensures j;
      needs = c7.needs.ensures j;
      amounts = c8.amounts.ensures j;
      next = (c9.next_in.ensures ∙ ap (next_in a.v a.piece.now) count) j;
      numbers = (c.numbers_in.ensures ∙ ap (numbers_in a.v a.piece.now) count) j;
    }
