-- `codes::one_kind::receive_kind` meets its contract.
use mathlib.Core.Path.{◌≡◌, ap, ◌∙◌}
use native.Mathlib.Omega.{arith}
use Rattle.table.specs.Words.{word_at}
use Rattle.codes.specs.OneKind.{number_of}
use Rattle.codes.proofs.OneKind.{word-most, receives-not, receives-only}
use Rattle.codes.proofs.one_kind.receive_kind.Goals as goal

pub overflow_add-sum : goal.overflow_add-sum
overflow_add-sum c =
    let had : (let a = c.args in c.word_at.result ≡ word_at a.w.now (number_of a.kind) a.i) =
    let a = c.args in c.word_at.ensures ∙ ap (λ n. word_at a.w.now n a.i) c.number_of.ensures.0
    in let s = c in omega (arith, word-most _ _ _ s.requires.0 s.requires.1 s.args.kind s.args.x _ had s.requires.2, s.requires.3)

pub returns-then-sum-gt-CEILING : goal.returns-then-sum-gt-CEILING
returns-then-sum-gt-CEILING c =
    let had : (let a = c.args in c.word_at.result ≡ word_at a.w.now (number_of a.kind) a.i) =
    let a = c.args in c.word_at.ensures ∙ ap (λ n. word_at a.w.now n a.i) c.number_of.ensures.0
    in let s = c in receives-not _ _ _ s.requires.0 s.requires.1 s.args.kind s.args.x _ had s.requires.2 c.if-sum-gt-CEILING.true

pub returns : goal.returns
returns c =
    let had : (let a = c.args in c.word_at.result ≡ word_at a.w.now (number_of a.kind) a.i) =
    let a = c.args in c.word_at.ensures ∙ ap (λ n. word_at a.w.now n a.i) c.number_of.ensures.0
    in
    let e = c in
    let s = e in
    receives-only _ _ _ s.requires.0 s.requires.1 s.args.kind s.args.x _ had s.requires.2 e.if-sum-gt-CEILING.false _ c.put_received.ensures
