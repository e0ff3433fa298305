-- How long a closing line is: 64 bytes hold any.
use mathlib.Core.List.{[], ◌∷◌, ◌++◌}
use Prim.Native.Nat.{ℕ, ◌^◌, ◌≤◌, ◌<◌}
use native.Mathlib.Omega.{arith}
use lib.ListN.{length, length-append}
use Rattle.records.specs.declared.Closing.{Closing}
use Rattle.records.specs.declared.Closing.TheVariants.{End, Cut, Long, Unsound}
use Rattle.text.specs.Numbers.{space, newline, followed, spaced}
use Rattle.text.proofs.Widths.{long-number}
use Rattle.lines.specs.Lines.{word_of, closing_line_of}

pub word-most : (word : Closing) → length (word_of word ++ (space ∷ [])) ≤ 5
word-most End = omega arith
word-most Cut = omega arith
word-most Long = omega arith
word-most Unsound = omega arith

pub closing-most : (word : Closing) (read done : ℕ) → read < 2 ^ 64 → done < 2 ^ 64 → length (closing_line_of word read done) ≤ 64
unfolding closing_line_of spaced
closing-most word read done hr hd =
    let W = word_of word ++ (space ∷ []) in
    let R = followed read space in
    let D = followed done newline in
    omega (arith, word-most word, length-append W (R ++ D), length-append R D, long-number read space hr, long-number done newline hd)
