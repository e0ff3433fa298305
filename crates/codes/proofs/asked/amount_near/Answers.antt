-- `codes::asked::amount_near` meets its contract.
use mathlib.Core.Path.{◌∙◌, ap}
use Prim.Native.Nat.{◌*◌}
use Rattle.dayfile.proofs.Amounts.{times-fits}
use Rattle.codes.proofs.Heading.{number-times}
use Rattle.codes.proofs.asked.amount_near.Goals as goal

pub overflow_mul-result : goal.overflow_mul-result
overflow_mul-result c =
    let start = c in
    times-fits start.args.bit c.number8.result start.requires.1 c.number8.type_inv

pub returns : goal.returns
returns c =
    let start = c in
    ap (λ n. start.args.bit * n) c.number8.ensures ∙ number-times start.args.bit _ start.requires.1
