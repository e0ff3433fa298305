-- An opening gives the next number (K11): numbers still rise below the next.
use mathlib.Core.Path.{◌≡◌, ◌∙◌}
use mathlib.Core.List.{List}
use Prim.Native.Nat.{ℕ, ◌+◌, ◌<◌}
use native.Mathlib.Omega.{arith}
use native.Mathlib.Decide.{ℕ_discrete}
use lib.ListN.{get_or, set, length-set}
use lib.Seq.{get_or-set_same, get_or-set_other}
use Rattle.book.specs.Facts.{Numbered}

module _ {count next : ℕ} {numbers : List ℕ} (room : count < 256) (more : next < 65536) (some : 0 < count) (n : Numbered count numbers next) where
  abbrev after : List ℕ
  after = set numbers count next

  new : get_or after count 0 ≡ next
  new = get_or-set_same numbers count next 0 (omega (arith, n.wide))

  old : (i : ℕ) → (i ≡ count → ⊥) → get_or after i 0 ≡ get_or numbers i 0
  old i ne = get_or-set_other numbers count i next 0 ne

  rises : (i j : ℕ) → i < j → j < count + 1 → Dec (j ≡ count) → get_or after i 0 < get_or after j 0
  rises i j h l (yes e) = rw e (omega (arith, new, old i (λ q. omega arith), n.below i (omega arith)))
  rises i j h l (no ne) = omega (arith, old i (λ q. omega arith), old j ne, n.rises i j h (omega arith))

  below : (i : ℕ) → i < count + 1 → Dec (i ≡ count) → get_or after i 0 < next + 1
  below i l (yes e) = rw e (omega (arith, new))
  below i l (no ne) = omega (arith, old i ne, n.below i (omega arith))

  pub numbered-on : Numbered (count + 1) (set numbers count next) (next + 1)
  numbered-on = record {
    wide = length-set numbers count next ∙ n.wide;
    top = old 0 (λ q. omega arith) ∙ n.top;
    rises = λ i j h l. rises i j h l (ℕ_discrete j count);
    below = λ i l. below i l (ℕ_discrete i count);
    last = omega arith;
    beyond = λ i h. old i (λ q. omega arith) ∙ n.beyond i (omega arith);
  }
