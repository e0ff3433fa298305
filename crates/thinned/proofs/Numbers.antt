-- A number means the same account in a book and in the one without the rows that are not kept.
use mathlib.Core.Bool.{Bool, true, false, ◌&&◌, and-false}
use mathlib.Core.Path.{◌≡◌, refl, sym, ap, ◌∙◌}
use Prim.Native.Nat.{ℕ, ◌<◌}
use native.Mathlib.Omega.{arith}
use native.Mathlib.Decide.{dec_lt}
use lib.Dec.{ltb}
use borrow.Author.Tests.{le-ltb}
use Rattle.sums.proofs.Choices.{test-clash}
use Rattle.rows.specs.declared.Book.{Book}
use Rattle.rows.specs.Rows.{row_at, number_at, place_of, is_live}
use Rattle.lookup.specs.Places.{Rising}
use Rattle.lookup.proofs.Places.{place-has, place_is}
use Rattle.book.specs.Facts.{Sound}
use Rattle.book.proofs.Settled.{sound-rows}
use Rattle.gaps.specs.Gaps.{place_after}
use Rattle.gaps.proofs.Places.{at_place}
use Rattle.thinned.proofs.Thinned.{Thinned, inside}
use Rattle.thinned.proofs.Verdicts.{Meant, kept, none}

rising : (b : Book) → Sound b → Rising b.numbers b.count
rising b s = record { most = s.most; up = s.numbered.rises }

-- the row that a number names is the one that has it
pub place-by : (b : Book) → Sound b → (i n : ℕ) → i < b.count → number_at b i ≡ n → place_of b n ≡ i
place-by b s i n l e = place_is b.numbers b.count n (rising b s) i l e

-- a number that no row has is no live account's
nobody : (b : Book) (n : ℕ) → (place_of b n < b.count → ⊥) → is_live b (place_of b n) ≡ false
nobody b n h = ap (λ t. t && (row_at b (place_of b n)).live) (le-ltb (place_of b n) b.count (omega arith))

module _ {keep : ℕ → Bool} {b c : Book} (s : Sound b) (t : Sound c) (d : Thinned keep b c) (n : ℕ) where
  -- a number of the thinned book is a kept row's
  was-kept : place_of c n < c.count → (place_of b n < b.count) × (keep (place_of b n) ≡ true)
  was-kept l =
      let a = at_place keep b.count (place_of c n) (omega (arith, d.count)) in
      let has : number_at b a.row ≡ n = sym (d.numbers a.row a.below a.kept) ∙ ap (number_at c) a.place ∙ place-has c.numbers c.count n l in
      let e = place-by b s a.row n a.below has in
      (omega (arith, e, a.below), ap keep e ∙ a.kept)

  -- THE LAW
  pub same-meaning : Meant keep b c (place_of b n) (place_of c n)
  same-meaning = by (dec_lt (place_of b n) b.count) (keep (place_of b n)) refl
    where
      by : Dec (place_of b n < b.count) → (x : Bool) → keep (place_of b n) ≡ x → Meant keep b c (place_of b n) (place_of c n)
      by (yes l) true k =
          kept l k
          (place-by c t (place_after keep (place_of b n)) n (inside (sound-rows b s) d (place_of b n) l k)
          (d.numbers (place_of b n) l k ∙ place-has b.numbers b.count n l))
      by (yes l) false k =
          none (ap (λ x. ltb (place_of b n) b.count && x) (d.gone (place_of b n) l k) ∙ and-false (ltb (place_of b n) b.count)) (nobody c n (λ z. test-clash (was-kept z).1 k))
      by (no l) x k = none (nobody b n l) (nobody c n (λ z. l (was-kept z).0))
