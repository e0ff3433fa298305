-- A line looked for byte by byte.
use mathlib.Core.Bool.{Bool, true, false, ◌&&◌, ◌||◌}
use mathlib.Core.List.{List}
use mathlib.Core.Path.{◌≡◌, refl, ap, ◌∙◌}
use Prim.Native.Nat.{ℕ, suc, ◌+◌, ◌≤◌, ◌<◌}
use native.Mathlib.Numerals.{add-one}
use borrow.Author.Tests.{eq-eqb, ne_eqb}
use lib.Dec.{eqb}
use lib.ListN.{length, get_or, drop, drop_of_length-le}
use lib.Seq.{drop-cons}
use Rattle.sums.proofs.Choices.{or_left}
use Rattle.text.specs.Numbers.{newline}
use Rattle.archives.specs.Files.{starts_with, has_from}

module _ (bytes line : List ℕ) (at i : ℕ) where
  -- all of the line was there
  pub starts-whole : length line ≤ i → starts_with (drop at bytes) (drop i line) ≡ true
  unfolding starts_with
  starts-whole l = rw (drop_of_length-le line l)

  module _ (m : i < length line) where
    -- the bytes end before it
    pub starts-short : length bytes ≤ at → starts_with (drop at bytes) (drop i line) ≡ false
    unfolding starts_with
    starts-short l = rw (drop_of_length-le bytes l, drop-cons line i 0 m)

    module _ (l : at < length bytes) where
      pub starts-same : get_or bytes at 0 ≡ get_or line i 0 → starts_with (drop at bytes) (drop i line) ≡ starts_with (drop (suc at) bytes) (drop (suc i) line)
      unfolding starts_with
      starts-same e = rw (drop-cons bytes at 0 l, drop-cons line i 0 m, eq-eqb _ _ e)

      pub starts_other : (get_or bytes at 0 ≡ get_or line i 0 → ⊥) → starts_with (drop at bytes) (drop i line) ≡ false
      unfolding starts_with
      starts_other e = rw (drop-cons bytes at 0 l, drop-cons line i 0 m, ne_eqb _ _ e)

module _ (begins : Bool) (file line : List ℕ) (i : ℕ) where
  -- no line begins behind the file
  pub has-none : length file ≤ i → has_from begins (drop i file) line ≡ false
  unfolding has_from
  has-none l = rw (drop_of_length-le file l)

  module _ (l : i < length file) where
    has-next : has_from begins (drop i file) line ≡ (begins && starts_with (drop i file) line || has_from (eqb (get_or file i 0) newline) (drop (suc i) file) line)
    unfolding has_from
    has-next = rw (drop-cons file i 0 l)

    -- the line is the one that begins there
    pub has_here : (begins && starts_with (drop i file) line) ≡ true → has_from begins (drop i file) line ≡ true
    has_here e = has-next ∙ or_left _ e

    -- it isn't
    pub has-later : (begins && starts_with (drop i file) line) ≡ false
        → has_from begins (drop i file) line ≡ has_from (eqb (get_or file i 0) newline) (drop (i + 1) file) line
    has-later e = has-next ∙ ap (λ (t : Bool). t || has_from (eqb (get_or file i 0) newline) (drop (suc i) file) line) e ∙ rw (add-one i) refl
