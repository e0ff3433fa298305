-- Laws of one amount, which stands in a record where its bit is 1: how long it is, and that written it reads back.
use mathlib.Core.Bool.{true}
use mathlib.Core.Path.{◌≡◌, refl, sym}
use mathlib.Core.List.{List, [], ◌++◌}
use Prim.Native.Nat.{ℕ, zero, suc, ◌+◌, ◌*◌, ◌^◌, ◌≤◌, ◌<◌}
use native.Mathlib.Omega.{arith}
use lib.ListN.{length, drop, length-drop}
use mir.Syntax.{w64}
use mir.Val.{Fits}
use Rattle.numbers.specs.Bytes.{number, bytes_of, Bytes}
use Rattle.numbers.proofs.Numbers.{length-bytes_of, number-bytes_of, drop-bytes_of, bytes_of-number, bytes_drop}
use Rattle.dayfile.specs.Records.{bit, good_amount}
use Rattle.dayfile.specs.Reading.{got, past}
use Rattle.dayfile.specs.Written.{field}
use Rattle.dayfile.proofs.Marks.{bit-lt}
use Rattle.dayfile.proofs.Good.{amount-most, amount-unnamed}

number-got : (b : ℕ) (l : List ℕ) → b < 2 → number (8 * b) l ≡ got b l
unfolding number got
number-got zero l h = refl
number-got (suc zero) l h = refl
number-got (suc (suc b)) l h = absurd (omega arith)

pub number_bit : (w n : ℕ) (l : List ℕ) → number (8 * bit w n) l ≡ got (bit w n) l
number_bit w n l = number-got (bit w n) l (bit-lt w n)

-- by a bit, without a test
pub got-times : (b : ℕ) (l : List ℕ) → b < 2 → b * number 8 l ≡ got b l
unfolding got
got-times zero l h = omega arith
got-times (suc zero) l h = omega arith
got-times (suc (suc b)) l h = absurd (omega arith)

pub times-fits : (b x : ℕ) → b < 2 → x < 2 ^ 64 → Fits w64 (b * x)
times-fits zero x h f = omega arith
times-fits (suc zero) x h f = omega arith
times-fits (suc (suc b)) x h f = absurd (omega arith)

past-drop : (b : ℕ) (l : List ℕ) → b < 2 → past b l ≡ drop (8 * b) l
unfolding past
past-drop zero l h = refl
past-drop (suc zero) l h = refl
past-drop (suc (suc b)) l h = absurd (omega arith)

pub past-bit : (w n : ℕ) (l : List ℕ) → past (bit w n) l ≡ drop (8 * bit w n) l
past-bit w n l = past-drop (bit w n) l (bit-lt w n)

pub bytes_past : (b : ℕ) (l : List ℕ) → Bytes l → Bytes (past b l)
unfolding past
bytes_past zero l h = h
bytes_past (suc b) l h = bytes_drop 8 l h

pub field-named : (b x : ℕ) → (b ≡ 0 → ⊥) → field b x ≡ bytes_of 8 x
unfolding field
field-named zero x h = absurd (h refl)
field-named (suc b) x h = refl

pub field-unnamed : (b x : ℕ) → b ≡ 0 → field b x ≡ []
unfolding field
field-unnamed b x h = rw h refl

length-field : (b x : ℕ) → b < 2 → length (field b x) ≡ 8 * b
unfolding field
length-field zero x h = refl
length-field (suc zero) x h = length-bytes_of 8 x
length-field (suc (suc b)) x h = absurd (omega arith)

pub length-bit : (w n x : ℕ) → length (field (bit w n) x) ≡ 8 * bit w n
length-bit w n x = length-field (bit w n) x (bit-lt w n)

-- ---- written and read back

pub got-field : (b least x : ℕ) → good_amount b least x ≡ true → (t : List ℕ) → got b (field b x ++ t) ≡ x
unfolding got field
got-field zero least x h t = sym (amount-unnamed 0 least x h refl)
got-field (suc b) least x h t = number-bytes_of 8 x t (omega (arith, amount-most (suc b) least x h))

pub past-field : (b x : ℕ) (t : List ℕ) → past b (field b x ++ t) ≡ t
unfolding past field
past-field zero x t = refl
past-field (suc b) x t = drop-bytes_of 8 x t

-- ---- read and written back, where the list is long enough

pub field-got : (b k : ℕ) (l : List ℕ) → Bytes l → 8 * b + k ≤ length l → field b (got b l) ++ past b l ≡ l
unfolding past field got
field-got zero k l h n = refl
field-got (suc b) k l h n = bytes_of-number 8 l h (omega arith)

pub past-length : (b k : ℕ) (l : List ℕ) → 8 * b + k ≤ length l → k ≤ length (past b l)
unfolding past
past-length zero k l h = omega arith
past-length (suc b) k l h = rw length-drop (omega arith)
