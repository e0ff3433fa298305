-- `dayfile::reading::amount_near` meets its contract.
use mathlib.Core.Path.{◌∙◌, ap}
use Prim.Native.Nat.{◌*◌}
use Rattle.dayfile.proofs.Amounts.{got-times, times-fits}
use Rattle.dayfile.proofs.reading.amount_near.Goals as goal

pub overflow_mul-result : goal.overflow_mul-result
overflow_mul-result c =
    let start = c in
    times-fits start.args.bit c.number8.result start.requires.1 c.number8.type_inv

pub returns : goal.returns
returns c =
    let start = c in
    ap (λ n. start.args.bit * n) c.number8.ensures ∙ got-times start.args.bit _ start.requires.1
