-- `numbers::number4` meets its contract.
use Rattle.std.proofs.Common.{◌≡◌, ℕ, ◌≤◌, List, [], ◌∷◌, length, take, drop, ap, ◌∙◌, arith, length-drop}
use Rattle.std.specs.Int.{w32, from_be_bytes}
use Rattle.numbers.specs.Bytes.{number}
use Rattle.numbers.proofs.number4.Goals as goal

high-first : (l : List ℕ) → 4 ≤ length l → from_be_bytes w32 (take 4 l) ≡ number 4 l
unfolding number
high-first [] m = absurd (omega arith)
high-first (a ∷ []) m = absurd (omega arith)
high-first (a ∷ b ∷ []) m = absurd (omega arith)
high-first (a ∷ b ∷ c ∷ []) m = absurd (omega arith)
high-first (a ∷ b ∷ c ∷ d ∷ l) m = omega arith

pub returns : goal.returns
returns c =
    c.from_be_bytes.ensures ∙ ap (from_be_bytes w32) c.bytes_at.ensures
    ∙ high-first (drop c.args.place c.args.piece.now) (omega (arith, length-drop c.args.place c.args.piece.now))
