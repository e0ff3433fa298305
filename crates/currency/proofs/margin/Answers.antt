-- `currency::margin` meets its contract.
use mathlib.Core.Path.{sym, ap, ◌∙◌}
use Prim.Native.Nat.{◌+◌, ◌≤◌}
use native.Mathlib.Omega.{arith}
use lib.ListN.{length, take, length-take}
use Rattle.currency.specs.declared.Made.TheVariants.{Given, Refused}
use Rattle.currency.specs.Margins.{sum_of, margin_record}
use Rattle.currency.proofs.Faultless.{charges-most}
use Rattle.currency.proofs.Numbers.{made-named}
use Rattle.currency.proofs.Making.{too_many, at-fault, initial-past, sum_past, sum-within}
use Rattle.currency.proofs.margin.Goals as goal

pub returns-then-number-gt-MOST : goal.returns-then-number-gt-MOST
returns-then-number-gt-MOST c =
    let whole = made-named _ _ _ _ _ _ (sym (too_many _ _ _ _ _ c.if-number-gt-MOST.true)) in
    record { value = whole.0; result_value = whole.1 }

pub returns-then-fault-ne0 : goal.returns-then-fault-ne0
returns-then-fault-ne0 c =
    let f = c.first_fault-fault.ensures in
    let whole = made-named _ _ _ _ _ _ (ap Refused f ∙ sym (at-fault _ _ _ _ _ c.if-number-gt-MOST.false (λ e. c.if-fault-ne0.true (f ∙ e)))) in
    record { value = whole.0; result_value = whole.1 }

pub returns-then-initial-gt-CEILING : goal.returns-then-initial-gt-CEILING
returns-then-initial-gt-CEILING c =
    let f = c in
    let whole = made-named _ _ _ _ _ _ (sym (initial-past _ _ _ _ _ f.if-number-gt-MOST.false (sym f.first_fault-fault.ensures ∙ c.if-fault-ne0.false) c.if-initial-gt-CEILING.true)) in
    record { value = whole.0; result_value = whole.1 }

pub overflow_add-sum : goal.overflow_add-sum
overflow_add-sum c =
    let f = c in
    let a = f.args in
    let long : length (take a.number a.positions) ≤ 64 = simp length-take (omega arith) in
    let most = charges-most (take a.number a.positions) (sym f.first_fault-fault.ensures ∙ c.if-fault-ne0.false) in
    record { fits = omega (arith, most, c.charged.ensures) }

pub returns-then-sum-gt-CEILING : goal.returns-then-sum-gt-CEILING
unfolding sum_of
returns-then-sum-gt-CEILING c =
    let d = c in
    let f = d in
    let a = f.args in
    let sum = ap (λ x. a.initial + x) d.charged.ensures in
    let whole = made-named _ _ _ _ _ _ (sym (sum_past _ _ _ _ _ f.if-number-gt-MOST.false (sym f.first_fault-fault.ensures ∙ d.if-fault-ne0.false) d.if-initial-gt-CEILING.false (omega (arith, sum)))) in
    record { value = whole.0; result_value = whole.1 }

pub returns : goal.returns
unfolding sum_of
returns c =
    let d = c in
    let f = d in
    let a = f.args in
    let sum = ap (λ x. a.initial + x) d.charged.ensures in
    let whole = made-named _ _ _ _ _ _
    (ap Given (c.record_of-record.ensures ∙ ap (margin_record a.serial a.account) sum)
    ∙ sym (sum-within _ _ _ _ _ f.if-number-gt-MOST.false (sym f.first_fault-fault.ensures ∙ d.if-fault-ne0.false) d.if-initial-gt-CEILING.false (omega (arith, sum)))) in
    record { value = whole.0; result_value = whole.1 }
