-- The byte for the set of amounts: which bits it has, and what a record's length is by them.
use mathlib.Core.Path.{◌≡◌, refl}
use Prim.Native.Nat.{ℕ, zero, suc, ◌+◌, ◌*◌, ◌<◌}
use native.Mathlib.Omega.{arith}
use lib.Count.{ones, ones_in}
use lib.Dec.{eqb}
use borrow.Author.Tests.{eqb-true}
use Rattle.sums.specs.Sum.{all}
use Rattle.sums.proofs.Sums.{all-at}
use Rattle.dayfile.specs.Records.{bit}
use Rattle.statement.specs.Forms.{bit_for}

pub mark-lt : (x : ℕ) → bit_for x < 2
unfolding bit_for
mark-lt zero = omega arith
mark-lt (suc n) = omega arith

module _ (a b c d e : ℕ) (ha : a < 2) (hb : b < 2) (hc : c < 2) (hd : d < 2) (he : e < 2) where
  abbrev marks : ℕ
  marks = a + 2 * b + 4 * c + 8 * d + 16 * e

  pub bit0 : bit 0 marks ≡ a
  bit0 = omega arith

  pub bit1 : bit 1 marks ≡ b
  bit1 = omega arith

  pub bit2 : bit 2 marks ≡ c
  bit2 = omega arith

  pub bit3 : bit 3 marks ≡ d
  bit3 = omega arith

  pub bit4 : bit 4 marks ≡ e
  bit4 = omega arith

abbrev again : ℕ → ℕ
again n = bit 0 n + 2 * bit 1 n + 4 * bit 2 n + 8 * bit 3 n + 16 * bit 4 n

-- one computed test for the whole table
pub bits_back : (n : ℕ) → n < 32 → again n ≡ n
unfolding all
bits_back n h = eqb-true _ _ (all-at 32 (λ k. eqb (again k) k) refl n h)

pub ones-five : (n : ℕ) → n < 32 → ones n ≡ bit 0 n + (bit 1 n + (bit 2 n + (bit 3 n + bit 4 n)))
unfolding all ones ones_in
ones-five n h = eqb-true _ _ (all-at 32 (λ k. eqb (ones k) (bit 0 k + (bit 1 k + (bit 2 k + (bit 3 k + bit 4 k))))) refl n h)
