-- `numbers::number8_if` meets its contract.
use mathlib.Core.Path.{◌≡◌, sym, ap, ◌∙◌}
use Prim.Native.Nat.{◌*◌}
use native.Mathlib.Omega.{arith}
use lib.ListN.{drop}
use Rattle.numbers.specs.Bytes.{number}
use Rattle.numbers.proofs.number8_if.Goals as goal

pub returns-then-bit-eq0 : goal.returns-then-bit-eq0
unfolding number
returns-then-bit-eq0 c = let a = c.args in sym (ap (λ b. number (8 * b) (drop a.place a.piece.now)) c.if-bit-eq0.true)

pub returns-else-bit-eq0 : goal.returns-else-bit-eq0
returns-else-bit-eq0 c =
    let a = c.args in
    let one : a.bit ≡ 1 = omega arith in
    c.number8.ensures ∙ sym (ap (λ b. number (8 * b) (drop a.place a.piece.now)) one)
