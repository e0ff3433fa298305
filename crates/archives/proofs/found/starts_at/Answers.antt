-- `archives::found::starts_at` meets its contract. The invariant: the bytes passed are the line's, and what is left decides.
use mathlib.Core.Path.{◌≡◌, sym, ap, ◌∙◌}
use Prim.Native.Nat.{ℕ, suc, ◌+◌}
use native.Mathlib.Numerals.{add-one}
use native.Mathlib.Omega.{arith}
use lib.ListN.{drop}
use Rattle.archives.specs.Files.{starts_with}
use Rattle.archives.proofs.Looked.{starts-whole, starts-short, starts-same, starts_other}
use Rattle.archives.proofs.found.starts_at.Goals as goal

pub loop-i-init : goal.loop-i-init
loop-i-init c =
    let a = c.args in
    let e : a.at ≡ a.at + 0 = omega arith in
    ap (λ (k : ℕ). starts_with (drop k a.bytes.now) a.line.now) e

pub returns-then-bytes-at : goal.returns-then-bytes-at
returns-then-bytes-at c =
    let l = c.loop-i in
    let a = c.args in
    sym (l.invariant ∙ starts-short a.bytes.now a.line.now (a.at + l.i) l.i (omega arith) (omega arith))

pub returns-then-bytes-at-2 : goal.returns-then-bytes-at-2
returns-then-bytes-at-2 c =
    let l = c.loop-i in
    let a = c.args in
    sym (l.invariant ∙ starts_other a.bytes.now a.line.now (a.at + l.i) l.i (omega arith) (omega arith) c.if-bytes-at-2.true)

pub loop-i-preserved : goal.loop-i-preserved
loop-i-preserved c =
    let l = c.loop-i in
    let a = c.args in
    let e = starts-same a.bytes.now a.line.now (a.at + l.i) l.i (omega arith) (omega arith) c.if-bytes-at-2.false in
    let q : suc (a.at + l.i) ≡ a.at + (l.i + 1) = omega arith in
    let more = ap (λ (k : ℕ). starts_with (drop k a.bytes.now) (drop (suc l.i) a.line.now)) q in
    l.invariant ∙ e ∙ more ∙ ap (λ (k : ℕ). starts_with (drop (a.at + (l.i + 1)) a.bytes.now) (drop k a.line.now)) (sym (add-one l.i))

pub returns : goal.returns
returns c =
    let l = c.loop-i in
    let a = c.args in
    sym (l.invariant ∙ starts-whole a.bytes.now a.line.now (a.at + l.i) l.i (omega arith))
