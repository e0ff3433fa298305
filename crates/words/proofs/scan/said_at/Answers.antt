use Rattle.std.proofs.Common.{◌≡◌, get_or, sym, refl, ap, ◌∙◌, arith}
use Rattle.words.specs.Tokens.{got}
use borrow.Author.Tests.{not-true, not-false}
use Rattle.words.proofs.Steps.{said-end, said-stop, said-over, said-on, range-most, grown, holds}
use Rattle.words.proofs.Tokens.{range-least}
use Rattle.words.proofs.scan.said_at.Goals as goal

pub loop-i-init : goal.loop-i-init
loop-i-init c = (c.requires, refl, omega arith)

pub returns-then-not-is_within : goal.returns-then-not-is_within
returns-then-not-is_within c =
    let l = c in
    sym (l.loop-i.invariant.1 ∙ said-stop _ l.loop-i.i (omega arith) _ _ l.loop-i.n l.loop-i.left (sym c.is_within.ensures ∙ not-true _ c.if-not-is_within.true-raw))

pub returns-then-left-eq0 : goal.returns-then-left-eq0
returns-then-left-eq0 c =
    let l = c in
    sym (l.loop-i.invariant.1 ∙ said-over _ l.loop-i.i (omega arith) _ _ l.loop-i.n l.loop-i.left (sym c.is_within.ensures ∙ not-false _ c.if-not-is_within.false-raw) c.if-left-eq0.true)

pub overflow_mul-n : goal.overflow_mul-n
overflow_mul-n c =
    let l = c in
    let a = l.args in
    let t = sym c.is_within.ensures ∙ not-false _ c.if-not-is_within.false-raw in
    omega (arith, holds a.base l.loop-i.n _ 18446744073709551616 (range-most (get_or a.text.now l.loop-i.i 0) a.low a.base t) l.loop-i.left c.if-left-eq0.false l.loop-i.invariant.0)

pub overflow_sub-n : goal.overflow_sub-n
overflow_sub-n c = range-least _ _ _ (sym c.is_within.ensures ∙ not-false _ c.if-not-is_within.false-raw)

pub overflow_cast-n : goal.overflow_cast-n
overflow_cast-n c =
    let l = c in
    omega (arith, c.type_inv.text l.loop-i.i)

pub overflow_add-n : goal.overflow_add-n
overflow_add-n c =
    let l = c in
    let a = l.args in
    let t = sym c.is_within.ensures ∙ not-false _ c.if-not-is_within.false-raw in
    omega (arith, holds a.base l.loop-i.n _ 18446744073709551616 (range-most (get_or a.text.now l.loop-i.i 0) a.low a.base t) l.loop-i.left c.if-left-eq0.false l.loop-i.invariant.0)

pub loop-i-preserved : goal.loop-i-preserved
loop-i-preserved c =
    let l = c in
    let t = sym c.is_within.ensures ∙ not-false _ c.if-not-is_within.false-raw in (
      grown _ l.loop-i.n _ _ (range-most _ _ _ t) l.loop-i.left c.if-left-eq0.false l.loop-i.invariant.0,
      l.loop-i.invariant.1 ∙ said-on _ l.loop-i.i (omega arith) _ _ l.loop-i.n l.loop-i.left t c.if-left-eq0.false,
      omega arith,
    )

pub returns : goal.returns
returns c =
    let e : c.max.result ≡ c.loop-i.i = omega arith in
    ap (got c.loop-i.n) e ∙ sym (c.loop-i.invariant.1 ∙ said-end _ c.loop-i.i (omega arith) _ _ _ _)
