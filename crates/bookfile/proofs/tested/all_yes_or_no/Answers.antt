-- `bookfile::tested::all_yes_or_no` meets its contract.
use Rattle.std.proofs.Common.{◌≡◌, ℕ, ◌<◌, Bool, true, false, MatchBool, length, get_or, refl, sym, ap, ◌∙◌, arith, rules}
use Rattle.std.specs.List.{range_with_len, AllWithin, HoldsAt}
use Rattle.std.proofs.lemmas.Iterator.{cases_from_all, YieldsList-from_range}
use Rattle.std.proofs.lemmas.List.FromFn.{length-range_with_len, get_or-range_with_len}
use Rattle.sums.specs.Sum.{all}
use Rattle.sums.proofs.Choices.{test-clash}
use Rattle.sums.proofs.Sums.{all_from, all-at}
use Rattle.bookfile.specs.Reading.{yes_or_no}
use Rattle.bookfile.proofs.tested.all_yes_or_no.Goals as goal

module _ (p : ℕ → Bool) (n : ℕ) where
  number-at : (i : ℕ) → i < n → get_or (range_with_len 0 n) i 0 ≡ i
  number-at i l = get_or-range_with_len 0 n i 0 l ∙ (omega arith)

  -- what the test answers of each number below n
  all-asked : (r : Bool) → MatchBool r (AllWithin (λ i. p i ≡ true) (range_with_len 0 n) 0 (length (range_with_len 0 n))) ((k : ℕ) × (k < length (range_with_len 0 n)) × HoldsAt (λ i. p i ≡ false) (range_with_len 0 n) k)
      → r ≡ all n p
  all-asked true h =
      sym (all_from n p (λ i l. ap p (sym (number-at i l)) ∙ h i 0 (omega arith) (omega (arith, length-range_with_len 0 n))))
  all-asked false h = by (all n p) refl
    where
      l : h.0 < n
      l = omega (arith, h.1, length-range_with_len 0 n)

      by : (t : Bool) → all n p ≡ t → false ≡ t
      by true e = test-clash (all-at n p e h.0 l) (ap p (sym (number-at h.0 l)) ∙ h.2 0)
      by false e = refl

pub returns : goal.returns
returns c =
    let p = yes_or_no c.args.v c.args.piece.now in
    all-asked p 256 _ (cases_from_all _ _ _ (λ i. p i ≡ true) (λ i. p i ≡ false) c.all.ensures.ran (YieldsList-from_range 0 256 256 (cc) (omega arith)) (λ i q k. search rules) (λ i q k. search rules))
