-- `closeout::good_losses` meets its contract. The invariant: the flag is the test of the losses passed.
use mathlib.Core.Path.{sym, ◌∙◌, ap}
use mathlib.Core.Bool.{Bool, ◌&&◌}
use Prim.Native.Nat.{ℕ}
use native.Mathlib.Omega.{arith}
use Rattle.sums.specs.Sum.{all}
use Rattle.sums.proofs.Sums.{all_none, all-step, all-eq}
use Rattle.rows.specs.Rows.{row_at}
use Rattle.table.specs.Words.{turned_back}
use Rattle.table.proofs.Gathered.{row-in}
use Rattle.closeout.specs.Closing.{loss_at, good_loss}
use Rattle.closeout.specs.Inner.{good_in}
use Rattle.closeout.proofs.good_losses.Goals as goal

pub loop-i-init : goal.loop-i-init
loop-i-init c = sym (all_none _)

pub loop-i-preserved : goal.loop-i-preserved
loop-i-preserved c =
    let at = c.loop-i in
    let test = good_in c.args.t.now.marks.live c.args.losses.now in ap (λ (g : Bool). g && test at.i) at.invariant ∙ sym (all-step at.i test)

pub returns : goal.returns
returns c =
    let t = c.args.t.now in
    let losses = c.args.losses.now in
    c.loop-i.invariant
    ∙ ap (λ (k : ℕ). all k (good_in t.marks.live losses)) (omega arith)
    ∙ sym (all-eq t.count (λ i. good_loss (row_at (turned_back t) i) (loss_at losses i)) (good_in t.marks.live losses)
    (λ i l. ap (λ r. good_loss r (loss_at losses i)) (row-in t.marks t.amounts i (omega (arith, c.requires.1)))))
