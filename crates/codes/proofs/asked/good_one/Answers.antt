-- `codes::asked::good_one` meets its contract.
use mathlib.Core.Path.{◌≡◌, ap}
use borrow.Author.Tests.{le-leb, lt-leb}
use lib.Dec.{leb}
use mathlib.Core.Bool.{◌&&◌}
use Rattle.rows.specs.Rows.{ceiling}
use Rattle.sums.proofs.Choices.{pick_first, pick_second}
use Rattle.codes.specs.Asking.{least_of}
use Rattle.codes.proofs.asked.good_one.Goals as goal
use Rattle.codes.proofs.asked.good_one.Goals.{then-code-le9, else-code-le9}

pub returns : goal.returns
returns c =
    let least-is : c.if-code-le9.least ≡ least_of c.args.code =
    elim c.if-code-le9.branch [
      | then-code-le9 w ↦ pick_first _ (le-leb _ _ w.if-code-le9.true) w.least-is
      | else-code-le9 w ↦ pick_second _ (lt-leb _ _ w.if-code-le9.false) w.least-is
    ]
    in ap (λ n. leb n c.args.x && leb c.args.x ceiling) least-is
