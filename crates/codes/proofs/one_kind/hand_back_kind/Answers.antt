-- `codes::one_kind::hand_back_kind` meets its contract.
use mathlib.Core.Path.{◌≡◌, ap, subst, ◌∙◌}
use Prim.Native.Nat.{◌+◌, ◌*◌, ◌≤◌, ◌<◌}
use lib.ListN.{set}
use Rattle.table.specs.Words.{word_at}
use Rattle.codes.specs.OneKind.{number_of}
use Rattle.codes.proofs.OneKind.{hands-back-not, hands-back-only}
use Rattle.codes.proofs.one_kind.hand_back_kind.Goals as goal

pub returns-then-less-x : goal.returns-then-less-x
returns-then-less-x c =
    let had : (let a = c.args in c.word_at-had.result ≡ word_at a.w.now (number_of a.kind) a.i) =
    let a = c.args in c.word_at-had.ensures ∙ ap (λ n. word_at a.w.now n a.i) c.number_of-number.ensures.0
    in
    let used : (let a = c.args in c.word_at.result ≡ word_at a.w.now (4 + number_of a.kind) a.i) =
    let a = c.args in c.word_at.ensures ∙ ap (λ n. word_at a.w.now (4 + n) a.i) c.number_of-number.ensures.0
    in
    let v = c in
    let s = v in
    hands-back-not _ _ _ s.requires.0 s.requires.1 s.args.kind s.args.x _ had _ used (subst (λ n. n < s.args.x) c.less.ensures c.if-less-x.true)

pub returns : goal.returns
returns c =
    let had : (let a = c.args in c.word_at-had.result ≡ word_at a.w.now (number_of a.kind) a.i) =
    let a = c.args in c.word_at-had.ensures ∙ ap (λ n. word_at a.w.now n a.i) c.number_of-number.ensures.0
    in
    let used : (let a = c.args in c.word_at.result ≡ word_at a.w.now (4 + number_of a.kind) a.i) =
    let a = c.args in c.word_at.ensures ∙ ap (λ n. word_at a.w.now (4 + n) a.i) c.number_of-number.ensures.0
    in
    let e = c in
    let v = e in
    let s = v in
    hands-back-only _ _ _ s.requires.0 s.requires.1 s.args.kind s.args.x _ had _ used (subst (λ n. s.args.x ≤ n) e.less.ensures e.if-less-x.false) _
    (c.put_received.ensures ∙ ap (set s.args.w.now (256 * number_of s.args.kind + s.args.i)) c.less-2.ensures)
