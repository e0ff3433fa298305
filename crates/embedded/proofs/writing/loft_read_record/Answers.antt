-- `embedded::writing::loft_read_record` meets its contract.
use mathlib.Core.Bool.{true}
use mathlib.Core.Path.{◌≡◌, refl, sym, ap, ◌∙◌}
use borrow.Author.Tests.{eq-eqb, ne_eqb}
use Rattle.sums.proofs.Choices.{pick_first, pick_second}
use Rattle.embedded.specs.Writing.{are_eleven, read_number, eleven_of, told_read, read_refusal, read_numbers}
use Rattle.embedded.proofs.writing.loft_read_record.Goals as goal

pub returns-then-numbers-ne11 : goal.returns-then-numbers-ne11
unfolding read_refusal read_numbers
returns-then-numbers-ne11 c =
    let no = ne_eqb _ _ c.if-numbers-ne11.true in
    record { value = pick_second _ no refl; numbers_after = pick_second _ no refl }

pub returns-in-End : goal.returns-in-End
unfolding read_refusal read_numbers
returns-in-End c =
    let eleven : are_eleven c.args.numbers.now ≡ true =
    eq-eqb _ _ c.if-numbers-ne11.false
    in
    let d = c in
    let q = sym c.in-End.is ∙ d.read_at-read.ensures.value in
    record { value = pick_first 15 eleven (ap read_number q); numbers_after = pick_first _ eleven (ap (λ x. told_read x d.args.numbers.now) q) }

pub returns-in-Cut : goal.returns-in-Cut
unfolding read_refusal read_numbers
returns-in-Cut c =
    let eleven : are_eleven c.args.numbers.now ≡ true =
    eq-eqb _ _ c.if-numbers-ne11.false
    in
    let d = c in
    let q = sym c.in-Cut.is ∙ d.read_at-read.ensures.value in
    record { value = pick_first 15 eleven (ap read_number q); numbers_after = pick_first _ eleven (ap (λ x. told_read x d.args.numbers.now) q) }

pub returns-in-Good : goal.returns-in-Good
unfolding read_refusal read_numbers
returns-in-Good c =
    let eleven : are_eleven c.args.numbers.now ≡ true =
    eq-eqb _ _ c.if-numbers-ne11.false
    in
    let d = c in
    let q = sym c.in-Good.is ∙ d.read_at-read.ensures.value in
    record { value = pick_first 15 eleven (ap read_number q); numbers_after = pick_first _ eleven (c.put_record.ensures ∙ ap (λ x. told_read x d.args.numbers.now) q) }

pub returns-in-Bad : goal.returns-in-Bad
unfolding read_refusal read_numbers
returns-in-Bad c =
    let eleven : are_eleven c.args.numbers.now ≡ true =
    eq-eqb _ _ c.if-numbers-ne11.false
    in
    let d = c in
    let q = sym c.in-Bad.is ∙ d.read_at-read.ensures.value in record { value = pick_first 15 eleven (ap read_number q); numbers_after = pick_first _ eleven (c.put_record-in-Bad.ensures ∙ ap (eleven_of _) c.bare_record.ensures ∙ ap (λ x. told_read x d.args.numbers.now) q) }
