-- No line of a day file's text is too long to be read: so what one program prints the other takes.
use mathlib.Core.Bool.{Bool, true, false}
use mathlib.Core.List.{List}
use mathlib.Core.Path.{◌≡◌, ◌∙◌}
use Prim.Native.Nat.{ℕ, ◌-◌, ◌≤◌}
use native.Mathlib.Omega.{arith}
use lib.Dec.{leb}
use lib.ListN.{length}
use borrow.Author.Tests.{lt-leb}
use Rattle.sums.specs.Choice.{pick}
use Rattle.sums.proofs.Choices.{pick_no}
use Rattle.numbers.specs.Bytes.{Bytes}
use Rattle.words.specs.Texts.{moved, puts, file, line_for, text_of}
use Rattle.words.specs.Pieces.{ended}
use Rattle.words.proofs.Files.{Part, line-turned, text-back-by}
use Rattle.words.proofs.Short.{for-most}
use Rattle.wording.specs.Wording.{too_long, line_within, day_within}

short-line : (line : List ℕ) → length line ≤ 205 → too_long line ≡ false
unfolding too_long pick
short-line line h = by (ended line)
  where
    by : (u : Bool) → leb 16454 (length line - pick u 1 0) ≡ false
    by true = lt-leb 16454 (length line - 1) (omega (arith, h))
    by false = lt-leb 16454 (length line - 0) (omega (arith, h))

line-within : (running : ℕ) (x : List ℕ) → Part x → line_within running (line_for running x) ≡ puts x (moved running x)
unfolding line_within
line-within running x p = pick_no _ _ _ (short-line (line_for running x) (for-most running x p)) ∙ line-turned running x p

pub text-taken : (running : ℕ) (s : List ℕ) → Bytes s → day_within running (text_of running s) ≡ file s
text-taken = text-back-by line_within line-within
