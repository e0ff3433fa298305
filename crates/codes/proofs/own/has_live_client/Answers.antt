-- `codes::own::has_live_client` meets its contract. The invariant: the flag says whether one of the accounts passed is a live client.
use mathlib.Core.Bool.{Bool, ◌||◌}
use mathlib.Core.Path.{refl, sym, ap, ◌∙◌}
use Prim.Native.Nat.{ℕ}
use native.Mathlib.Omega.{arith}
use borrow.Author.Tests.{eq-eqb, ne_eqb}
use Rattle.sums.proofs.Choices.{pick_first, pick_second}
use Rattle.sums.specs.Sum.{any}
use Rattle.sums.proofs.Sums.{any_none, any_step}
use Rattle.codes.specs.Own.{client_in, has_live_client_in}
use Rattle.codes.proofs.own.has_live_client.Goals as goal

pub returns-then-its-ne1 : goal.returns-then-its-ne1
unfolding has_live_client_in
returns-then-its-ne1 c = pick_second _ (ne_eqb _ 1 c.if-its-ne1.true) refl

pub loop-i-init : goal.loop-i-init
loop-i-init c =
    let a = c.args in
    sym (any_none (client_in a.marks.now a.a))

pub loop-i-preserved : goal.loop-i-preserved
loop-i-preserved c =
    let s = c.args in
    let f = client_in s.marks.now s.a in
    let l = c.loop-i in
    ap (λ (x : Bool). x || f l.i) l.invariant ∙ sym (any_step l.i f)

pub returns : goal.returns
unfolding has_live_client_in
returns c =
    let s = c.args in
    let f = client_in s.marks.now s.a in
    pick_first _ (eq-eqb _ 1 c.if-its-ne1.false) (c.loop-i.invariant ∙ ap (λ (k : ℕ). any k f) (omega arith))
