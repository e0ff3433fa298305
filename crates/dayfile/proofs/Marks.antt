-- Laws of the second mark byte: its ones are its bits.
use mathlib.Core.Path.{◌≡◌, refl, sym, ap, ◌∙◌}
use Prim.Native.Nat.{ℕ, ◌+◌, ◌*◌, ◌/◌, ◌%◌, ◌^◌, ◌<◌}
use native.Mathlib.Nat.{mod-lt, div-one, div-div-eq-div-mul}
use lib.Count.{ones, ones_step}
use lib.Dec.{lit<}
use Rattle.dayfile.specs.Records.{bit}

pub bit-lt : (k n : ℕ) → bit k n < 2
bit-lt k n = mod-lt (n / 2 ^ k) (lit< tt)

ones-at : (w n : ℕ) → ones (n / w) ≡ n / w % 2 + ones (n / (w * 2))
ones-at w n = ones_step (n / w) ∙ ap (λ (k : ℕ). n / w % 2 + ones k) (div-div-eq-div-mul n w 2)

pub ones-bits : (n : ℕ) → ones n ≡ bit 0 n + (bit 1 n + (bit 2 n + (bit 3 n + (bit 4 n + (bit 5 n + ones (n / 64))))))
ones-bits n =
    ap ones (sym (div-one n))
    ∙ rw (ones-at 1 n, ones-at 2 n, ones-at 4 n, ones-at 8 n, ones-at 16 n, ones-at 32 n)

pub ones-zero : (n : ℕ) → n ≡ 0 → ones n ≡ 0
unfolding ones
ones-zero n e = rw e refl
