use Rattle.std.proofs.Common.{[], sym, ap, ◌∙◌, arith}
use Rattle.sums.proofs.Choices.{pick_first, pick_second}
use Rattle.feed.specs.declared.books.From.{From}
use Rattle.feed.specs.Books.{fresh_from, from_held}
use Rattle.feed.proofs.books.from_named.Goals as goal

pub returns-then-not-names_file : goal.returns-then-not-names_file
unfolding fresh_from
returns-then-not-names_file c =
    let e = c.fresh.ensures in
    let f = ap (λ (x : From). x.named) e in
    let by = f ∙ sym c.if-not-names_file.true ∙ c.names_file.ensures in
    record { named_value = by; came_from = record { count = _; name = _; named = by; file = []; bytes = λ i. omega arith; is = pick_second _ f e } }

pub returns : goal.returns
unfolding from_held
returns c =
    let e = c.from_file.ensures.is in
    let f = ap (λ (x : From). x.named) e in
    let by = f ∙ sym c.if-not-names_file.false ∙ c.names_file.ensures in
    record { named_value = by; came_from = record { count = _; name = _; named = by; file = c.from_file.ensures.file; bytes = c.from_file.ensures.bytes; is = pick_first fresh_from f e } }
