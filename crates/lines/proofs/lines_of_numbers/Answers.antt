-- `lines::lines_of_numbers` meets its contract.
use mathlib.Core.Path.{◌≡◌, ap, ◌∙◌}
use Prim.Native.Nat.{ℕ, min}
use native.Mathlib.Omega.{arith}
use lib.ListN.{length-replicate}
use Rattle.lines.specs.Texts.{fitting}
use Rattle.text.proofs.Puts.{puts-at-start}
use Rattle.lines.proofs.lines_of_numbers.Goals as goal

pub put_lines-requires : goal.put_lines-requires
put_lines-requires c = (c.fill.ensures, omega arith, omega arith)

pub returns : goal.returns
returns c =
    let asked : (let l = c in let a = l.args in
    l.min-k.result ≡ fitting a.count a.numbers.now a.room.now) =
    let l = c in
    l.min-k.ensures ∙ ap (min l.args.count) l.min.ensures
    in
    let whole = puts-at-start c.put_lines.ensures in
    record { value = rw (← asked) whole.0; room_after = rw (← asked) whole.1 }

pub fill-requires : goal.fill-requires
fill-requires c = length-replicate {A = ℕ} 1000 0
