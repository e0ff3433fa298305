-- `closeout::pays::rounds` meets its contract: own payment and both rounds stay within the loss, so that nothing wraps.
use mathlib.Core.Bool.{Bool}
use mathlib.Core.Path.{◌≡◌, ap, ◌∙◌}
use Prim.Native.Nat.{ℕ, ◌+◌, ◌-◌, ◌≤◌, min}
use native.Mathlib.Omega.{arith}
use Rattle.sums.specs.Sum.{only}
use Rattle.closeout.specs.declared.pays.Paid.{Paid}
use Rattle.closeout.specs.Inner.{paid_by, rounds_by}
use Rattle.closeout.proofs.Turns.{paid-adds, own-fits, first_fits, by-rounds}
use Rattle.closeout.proofs.pays.rounds.Goals as goal

-- what an account pays in a round
abbrev sum-of : Paid → ℕ
sum-of p = p.own + p.tm + p.cm

module _ (t : Bool) (has : ℕ) {loss x own : ℕ} (ex : x ≡ min loss has) (eo : own ≡ only t x) where
  own-within : own ≤ loss
  own-within = own-fits t _ _ _ _ ex eo

  module _ (margin sort purse tm cm : ℕ) {y ask : ℕ} {p : Paid} (ey : y ≡ min loss margin) (ea : ask ≡ y - own) (ep : p ≡ paid_by sort purse ask tm cm) where
    both-within : own + sum-of p ≤ loss
    both-within = first_fits _ _ _ _ _ (sum-of p) p.unpaid own-within ey ea (paid-adds _ _ _ _ _ ep)

    all-within : (sort₂ purse₂ tm₂ cm₂ : ℕ) {q : Paid} → q ≡ paid_by sort₂ purse₂ (loss - own - sum-of p) tm₂ cm₂ → own + sum-of p + sum-of q ≤ loss
    all-within _ _ _ _ e = omega (arith, paid-adds _ _ _ _ _ e, both-within)

pub free_with-free-requires : goal.free_with-free-requires
free_with-free-requires c = (rw c.account_of-a.ensures (omega (arith, c.requires.0.margin)), omega (arith, c.requires.1))

pub overflow_add-paid : goal.overflow_add-paid
overflow_add-paid c = omega (arith, paid-adds _ _ _ _ _ c.pay-first.ensures)

pub overflow_add-paid-2 : goal.overflow_add-paid-2
overflow_add-paid-2 c = omega (arith, paid-adds _ _ _ _ _ c.pay-first.ensures)

pub overflow_sub-left : goal.overflow_sub-left
overflow_sub-left c = own-within _ _ c.min.ensures c.only_if-own.ensures

pub overflow_sub-left-2 : goal.overflow_sub-left-2
overflow_sub-left-2 c = let h = both-within _ _ c.min.ensures c.only_if-own.ensures _ _ _ _ _ c.min-2.ensures c.saturating_sub-ask.ensures c.pay-first.ensures in omega (arith, h)

pub overflow_add-result : goal.overflow_add-result
overflow_add-result c = omega (arith, both-within _ _ c.min.ensures c.only_if-own.ensures _ _ _ _ _ c.min-2.ensures c.saturating_sub-ask.ensures c.pay-first.ensures, c.ranges)

pub overflow_add-result-2 : goal.overflow_add-result-2
overflow_add-result-2 c = omega (arith, all-within _ _ c.min.ensures c.only_if-own.ensures _ _ _ _ _ c.min-2.ensures c.saturating_sub-ask.ensures c.pay-first.ensures _ _ _ _ c.pay-second.ensures, c.ranges)

pub overflow_add-result-3 : goal.overflow_add-result-3
overflow_add-result-3 c = omega (arith, all-within _ _ c.min.ensures c.only_if-own.ensures _ _ _ _ _ c.min-2.ensures c.saturating_sub-ask.ensures c.pay-first.ensures _ _ _ _ c.pay-second.ensures, c.ranges)

pub overflow_add-result-4 : goal.overflow_add-result-4
overflow_add-result-4 c = omega (arith, all-within _ _ c.min.ensures c.only_if-own.ensures _ _ _ _ _ c.min-2.ensures c.saturating_sub-ask.ensures c.pay-first.ensures _ _ _ _ c.pay-second.ensures, c.ranges)

pub returns : goal.returns
returns c =
    let a = c.args in
    by-rounds c.account_of-a.result _ _ _ _ _ _ c.free_with-free.ensures c.min.ensures c.only_if-own.ensures c.min-2.ensures
    c.saturating_sub-ask.ensures c.only_if-purse.ensures c.pay-first.ensures c.only_if-spare.ensures c.pay-second.ensures
    ∙ ap (λ r. rounds_by r a.loss a.under a.tm.left a.cm.left a.tm.free a.cm.free) c.account_of-a.ensures
