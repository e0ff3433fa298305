-- The test of a book's numbers (K11) holds exactly where they rise below the next to be given.
use mathlib.Core.Path.{◌≡◌, refl, sym, ◌∙◌}
use mathlib.Core.Bool.{Bool, true, ◌&&◌}
use mathlib.Core.List.{List}
use Prim.Native.Nat.{ℕ, zero, suc, ◌-◌, ◌≤◌, ◌<◌}
use native.Mathlib.Omega.{arith}
use native.Mathlib.Decide.{ℕ_discrete, dec_lt}
use lib.Dec.{eqb, ltb}
use lib.ListN.{length, get_or, get_or-eq_default}
use borrow.Author.Tests.{eqb-true, eq-eqb, ne_eqb, leb-true, le-leb, ltb-true, lt-ltb, le-ltb}
use Rattle.sums.specs.Choice.{pick}
use Rattle.sums.proofs.Sums.{all-at, all_from}
use Rattle.sums.proofs.Choices.{pick_yes, pick_no, and_left, and_right, and-join}
use Rattle.book.specs.Sound.{good_number, numbers_sound}
use Rattle.book.specs.Facts.{Numbered}

module _ (count next : ℕ) (numbers : List ℕ) where
  abbrev at : ℕ → ℕ
  at i = get_or numbers i 0

  abbrev good : ℕ → Bool
  good i = good_number count next i (at (i - 1)) (at i)

  abbrev rising : ℕ → Bool
  rising i = pick (eqb i 0) (eqb (at i) 0) (ltb (at (i - 1)) (at i))

  module _ (most : count ≤ 256) (e : numbers_sound count next numbers ≡ true) where
    width : length numbers ≡ 256
    unfolding numbers_sound
    width = search (and_left, and_right, eqb-true)

    each : (i : ℕ) → i < 256 → good i ≡ true
    unfolding numbers_sound
    each = all-at 256 good (search and_right)

    held : (i : ℕ) → i < count → (rising i && ltb (at i) next) ≡ true
    held i l = sym (pick_yes (ltb i count) (rising i && ltb (at i) next) (eqb (at i) 0) (lt-ltb _ _ l)) ∙ each i (omega arith)

    above : (i : ℕ) → 0 < i → i < count → at (i - 1) < at i
    above i p l =
        ltb-true _ _ (sym (pick_no (eqb i 0) (eqb (at i) 0) (ltb (at (i - 1)) (at i)) (ne_eqb i 0 (λ q. omega arith))) ∙ and_left (rising i) (ltb (at i) next) (held i l))

    one-above : (j : ℕ) → suc j < count → at j < at (suc j)
    one-above j l = let e : suc j - 1 ≡ j = omega arith in rw e at (above (suc j) (omega arith) l)

    further : (i j : ℕ) → i < suc j → suc j < count → (i < j → at i < at j) → Dec (i ≡ j) → at i < at (suc j)
    further i j h l before (yes q) = rw q (one-above j l)
    further i j h l before (no q) = omega (arith, before (omega arith), one-above j l)

    up : (i j : ℕ) → i < j → j < count → at i < at j
    up i zero h l = absurd (omega arith)
    up i (suc j) h l = further i j h l (λ b. up i j b (omega arith)) (ℕ_discrete i j)

    beyond : (i : ℕ) → count ≤ i → Dec (i < 256) → at i ≡ 0
    beyond i h (yes l) = eqb-true _ _ (sym (pick_no (ltb i count) (rising i && ltb (at i) next) (eqb (at i) 0) (le-ltb _ _ h)) ∙ each i l)
    beyond i h (no l) = get_or-eq_default numbers 0 (omega (arith, width))

    pub numbers→ : 0 < count → Numbered count numbers next
    unfolding numbers_sound
    numbers→ some = record {
      wide = width;
      top = eqb-true _ _ (sym (pick_yes (eqb 0 0) (eqb (at 0) 0) (ltb (at 0) (at 0)) (eq-eqb 0 0 refl)) ∙ and_left (rising 0) (ltb (at 0) next) (held 0 some));
      rises = up;
      below = λ i l. ltb-true _ _ (and_right (rising i) (ltb (at i) next) (held i l));
      last = leb-true _ _ (search and_left);
      beyond = λ i h. beyond i h (dec_lt i 256);
    }

  pub numbers← : Numbered count numbers next → numbers_sound count next numbers ≡ true
  unfolding numbers_sound
  numbers← h = and-join (and-join (le-leb _ _ h.last) (eq-eqb _ _ h.wide)) (all_from 256 good (λ i l. by i (dec_lt i count)))
    where
      rises : (i : ℕ) → i < count → Dec (i ≡ 0) → rising i ≡ true
      rises i l (yes z) = pick_yes (eqb i 0) (eqb (at i) 0) (ltb (at (i - 1)) (at i)) (eq-eqb _ _ z) ∙ eq-eqb (at i) 0 (rw z h.top)
      rises i l (no z) = pick_no (eqb i 0) (eqb (at i) 0) (ltb (at (i - 1)) (at i)) (ne_eqb _ _ z) ∙ lt-ltb _ _ (h.rises (i - 1) i (omega arith) l)

      by : (i : ℕ) → Dec (i < count) → good i ≡ true
      by i (yes l) = pick_yes (ltb i count) (rising i && ltb (at i) next) (eqb (at i) 0) (lt-ltb _ _ l) ∙ and-join (rises i l (ℕ_discrete i 0)) (lt-ltb _ _ (h.below i l))
      by i (no l) = pick_no (ltb i count) (rising i && ltb (at i) next) (eqb (at i) 0) (le-ltb i count (omega arith)) ∙ eq-eqb _ _ (h.beyond i (omega arith))
