-- `text::decimals::number_of` meets its contract.
use mathlib.Core.Path.{sym, ap, ◌∙◌}
use Rattle.text.specs.Decimals.{with_digit, said}
use Rattle.text.proofs.Saying.{no-digits, some-digits, all_said, stops, goes_on}
use Prim.Native.Nat.{◌+◌}
use native.Mathlib.Omega.{arith}
use lib.ListN.{drop}
use Rattle.std.proofs.lemmas.Bool.Decides.{nat_tests}
use Rattle.text.proofs.decimals.number_of.Goals as goal

pub returns-then-is_empty : goal.returns-then-is_empty
returns-then-is_empty c = no-digits _ (grind (arith, nat_tests, c.if-is_empty.ensures))

pub loop-byte-init : goal.loop-byte-init
loop-byte-init c = some-digits _ (λ e. grind (arith, nat_tests, c.if-is_empty.ensures, e))

pub returns-in_err-digit_of : goal.returns-in_err-digit_of
returns-in_err-digit_of c =
    let l = c.loop-byte in
    c.from_residual.ensures ∙ sym (l.invariant ∙ stops c.args.word.now l.n l.byte-index (omega arith) c.in_err-digit_of.ensures)

pub loop-byte-preserved : goal.loop-byte-preserved
loop-byte-preserved c =
    let l = c.loop-byte in
    let digit = c.in_ok-digit_of.ensures in
    l.invariant ∙ goes_on c.args.word.now l.n l.byte-index (omega arith) (omega (arith, digit.0, digit.1))
    ∙ ap (λ m. said m (drop (l.byte-index + 1) c.args.word.now)) (ap (with_digit l.n) digit.0 ∙ sym c.with_digit-n.ensures)

pub returns : goal.returns
returns c = sym (c.loop-byte.invariant ∙ all_said c.args.word.now c.loop-byte.n c.loop-byte.byte-index (omega arith))
