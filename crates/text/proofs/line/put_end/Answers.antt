-- `text::line::put_end` meets its contract: what the first number spills is covered by the last, a 0 or any.
use mathlib.Core.List.{[], ◌∷◌}
use mathlib.Core.Path.{◌≡◌}
use Prim.Native.Nat.{ℕ}
use Rattle.sums.specs.Choice.{pick}
use Rattle.text.specs.Numbers.{newline, digits, decimal, followed, spaced}
use Rattle.text.proofs.Puts.{puts-as}
use Rattle.text.proofs.Spilling.{then-put}
use Rattle.text.proofs.Widths.{some_number}
use Rattle.text.proofs.line.put_end.Goals as goal

zero-line : (given : ℕ) → given ≡ 0 → 48 ∷ 10 ∷ [] ≡ followed given newline
unfolding decimal digits pick
zero-line given e = rw e

pub returns-then-given-eq0 : goal.returns-then-given-eq0
unfolding spaced
returns-then-given-eq0 c =
    let i = c in
    let f = i in
    let given = f.args.given in
    then-put f.put_spilling-p.ensures.spills _ (some_number given newline) (puts-as (zero-line given i.if-given-eq0.true) c.put_text.ensures)

pub returns : goal.returns
unfolding spaced
returns c =
    let l = c in
    let f = l in
    then-put f.put_spilling-p.ensures.spills _ (some_number _ newline) l.put_short.ensures.puts
