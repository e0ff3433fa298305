-- A live account's row in the book without the rows that are not kept: the one that it was, with the place where its TM's number now stands.
use mathlib.Core.Bool.{Bool, true}
use mathlib.Core.Path.{◌≡◌, sym, ap, ◌∙◌}
use Prim.Native.Nat.{ℕ, ◌<◌}
use native.Mathlib.Omega.{arith}
use native.Mathlib.Decide.{ℕ_discrete}
use Rattle.sums.proofs.Choices.{test-clash}
use Rattle.rows.specs.declared.Book.{Book}
use Rattle.rows.specs.Rows.{row_at, number_at, place_of, is_live}
use Rattle.book.specs.Facts.{Sound}
use Rattle.book.proofs.Settled.{sound-rows}
use Rattle.gaps.specs.Gaps.{place_after, with_tm}
use Rattle.thinned.proofs.Thinned.{Thinned, inside}
use Rattle.thinned.proofs.Verdicts.{Meant, kept, none}
use Rattle.thinned.proofs.Numbers.{place-by, same-meaning}

module _ {keep : ℕ → Bool} {b c : Book} (s : Sound b) (t : Sound c) (d : Thinned keep b c) (n : ℕ) where
  abbrev i : ℕ
  i = place_of b n

  module _ (l : i < b.count) (k : keep i ≡ true) where
    low : Dec ((row_at b i).sort ≡ 2) → (row_at b i).tm < b.count
    low (yes e) = omega (arith, (s.shaped.tms i l e).0)
    low (no e) = omega (arith, s.no-tm i l e)

    here : Dec ((row_at b i).sort ≡ 2) → keep (row_at b i).tm ≡ true
    here (yes e) = d.tm-kept i l k e
    here (no e) = ap keep (s.no-tm i l e) ∙ d.top

    at : (j : ℕ) → j < b.count → keep j ≡ true → place_of c (number_at b j) ≡ place_after keep j
    at j m e = place-by c t (place_after keep j) (number_at b j) (inside (sound-rows b s) d j m e) (d.numbers j m e)

    tm-is : place_after keep (row_at b i).tm ≡ place_of c (number_at b (row_at b i).tm)
    tm-is = let z = ℕ_discrete (row_at b i).sort 2 in sym (at (row_at b i).tm (low z) (here z))

  pub same-account : is_live b (place_of b n) ≡ true
      → row_at c (place_of c n) ≡ with_tm (row_at b (place_of b n)) (place_of c (number_at b (row_at b (place_of b n)).tm))
  same-account live = by (same-meaning s t d n)
    where
      by : Meant keep b c (place_of b n) (place_of c n)
          → row_at c (place_of c n) ≡ with_tm (row_at b (place_of b n)) (place_of c (number_at b (row_at b (place_of b n)).tm))
      by (kept l k e) = ap (row_at c) e ∙ d.rows (place_of b n) l k ∙ ap (with_tm (row_at b (place_of b n))) (tm-is l k)
      by (none x y) = test-clash live x
