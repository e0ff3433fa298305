use Rattle.std.proofs.Common.{◌≡◌, ℕ, ◌+◌, drop, sym, ap, ◌∙◌, arith}
use Rattle.words.specs.Words.{code_words, place_in}
use Rattle.words.proofs.Saying.{place_here, place-on, place_none}
use Rattle.words.proofs.say.code_of.Goals as goal

pub returns-then-word-code : goal.returns-then-word-code
returns-then-word-code c = sym (c.loop-i.invariant ∙ place_here c.args.word c.loop-i.i (omega arith) c.if-word-code.true)

pub loop-i-preserved : goal.loop-i-preserved
loop-i-preserved c = c.loop-i.invariant ∙ place-on c.args.word c.loop-i.i (omega arith) c.if-word-code.false

pub returns : goal.returns
returns c =
    let e : c.loop-i.i ≡ 13 = omega arith in
    sym (c.loop-i.invariant ∙ ap (λ (i : ℕ). place_in c.args.word (drop i code_words) (i + 1)) e ∙ place_none c.args.word 14)
