-- `text::texts::text_of` meets its contract: one digit, two or three.
use mathlib.Core.List.{List, [], ◌∷◌, ◌++◌}
use mathlib.Core.Path.{refl, ap, ◌∙◌}
use Prim.Native.Nat.{ℕ}
use native.Mathlib.Omega.{arith}
use Rattle.text.specs.Numbers.{digit, space}
use Rattle.text.specs.Inner.{pair, three}
use Rattle.text.proofs.Digits.{decimal-one, decimal-two, decimal-three}
use Rattle.text.proofs.TextWords.{four_same, is-text}
use Rattle.text.proofs.texts.text_of.Goals as goal

abbrev and_space : List ℕ → List ℕ
and_space digits = digits ++ (space ∷ [])

pub returns-then-n-lt10 : goal.returns-then-n-lt10
returns-then-n-lt10 c =
    let i = c in
    let n = i.args.n in
    let low = c.word.ensures in
    let high = c.word-then-n-lt10.ensures in
    is-text _ _ low.0 high.0 n (and_space (digit n ∷ [])) (0 ∷ 0 ∷ []) (ap and_space (decimal-one n (omega arith)))
    (low.1 ∙ four_same (omega arith) refl refl refl) high.1

pub returns-then-n-lt100 : goal.returns-then-n-lt100
returns-then-n-lt100 c =
    let i = c in
    let n = i.args.n in
    let low = c.word-then-n-lt100.ensures in
    let high = c.word-then-n-lt100-2.ensures in
    is-text _ _ low.0 high.0 n (and_space (pair n)) (0 ∷ []) (ap and_space (decimal-two n (omega arith) (omega arith)))
    (low.1 ∙ four_same (omega arith) refl refl refl) high.1

pub returns : goal.returns
returns c =
    let i = c in
    let n = i.args.n in
    let low = c.word-2.ensures in
    let high = c.word-3.ensures in
    is-text _ _ low.0 high.0 n (and_space (three n)) [] (ap and_space (decimal-three n (omega arith) (omega arith)))
    (low.1 ∙ four_same refl (omega arith) (omega arith) refl) high.1
