-- What the test of bytes says.
use mathlib.Core.Bool.{Bool, true, false, ◌&&◌}
use mathlib.Core.List.{List}
use mathlib.Core.Path.{◌≡◌}
use Prim.Native.Nat.{ℕ, ◌<◌}
use borrow.Author.Tests.{eqb-true, eq-eqb, ne_eqb}
use lib.Dec.{eqb}
use lib.ListN.{length, get_or}
use Rattle.sums.specs.Sum.{all}
use Rattle.sums.proofs.Choices.{and_left, and_right}
use Rattle.sums.proofs.Sums.{all-at}
use Rattle.bookfile.specs.declared.Version.{Version}
use Rattle.bookfile.specs.Versions.{size_of, mark_of}
use Rattle.bookfile.specs.Reading.{yes_or_no, marked, is_of}

module _ (v : Version) (file : List ℕ) where
  pub other_length : (length file ≡ size_of v → ⊥) → is_of v file ≡ false
  unfolding is_of
  other_length h = rw (ne_eqb (length file) (size_of v) h)

  pub right-length : {a b : Bool} → length file ≡ size_of v → a ≡ marked v file → b ≡ all 256 (yes_or_no v file) → (a && b) ≡ is_of v file
  unfolding is_of
  right-length h p q = rw (eq-eqb (length file) (size_of v) h, p, q)

  module _ (h : is_of v file ≡ true) where
    pub book-long : length file ≡ size_of v
    unfolding is_of
    book-long = eqb-true (length file) (size_of v) (and_left (eqb (length file) (size_of v)) (marked v file && all 256 (yes_or_no v file)) h)

    rest : (marked v file && all 256 (yes_or_no v file)) ≡ true
    unfolding is_of
    rest = and_right (eqb (length file) (size_of v)) _ h

    pub book-marked : (i : ℕ) → i < 4 → get_or file i 0 ≡ get_or (mark_of v) i 0
    book-marked i l = eqb-true _ _ (all-at 4 (λ j. eqb (get_or file j 0) (get_or (mark_of v) j 0)) (and_left (marked v file) _ rest) i l)

    pub book-plain : (i : ℕ) → i < 256 → yes_or_no v file i ≡ true
    book-plain i l = all-at 256 (yes_or_no v file) (and_right (marked v file) _ rest) i l
