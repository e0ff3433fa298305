-- What a word says, digit by digit.
use mathlib.Core.List.{List, [], ◌∷◌}
use mathlib.Core.Path.{◌≡◌, refl, sym, ap, ◌∙◌}
use Prim.Native.Nat.{ℕ, ◌+◌, ◌≤◌, ◌<◌}
use native.Mathlib.Numerals.{add-one}
use native.Mathlib.Omega.{arith}
use borrow.Author.Tests.{eq-eqb, ne_eqb}
use lib.Dec.{eqb}
use lib.ListN.{length, drop, get_or, drop_of_length-le}
use lib.Seq.{drop-cons}
use Rattle.sums.specs.Choice.{pick}
use Rattle.sums.proofs.Choices.{pick_yes, pick_no}
use Rattle.std.specs.Prelude.{None, Some}
use Rattle.text.specs.Decimals.{digit_in, with_digit, said, decimal_of}

pub no-digits : (word : List ℕ) → length word ≡ 0 → None ≡ decimal_of word
unfolding decimal_of
no-digits [] e = refl
no-digits (b ∷ rest) e = absurd (omega arith)

pub some-digits : (word : List ℕ) → (length word ≡ 0 → ⊥) → decimal_of word ≡ said 0 word
unfolding decimal_of
some-digits [] h = absurd (h refl)
some-digits (b ∷ rest) h = refl

pub all_said : (word : List ℕ) (n i : ℕ) → length word ≤ i → said n (drop i word) ≡ Some n
unfolding said
all_said word n i h = ap (said n) (drop_of_length-le word {i = i} h)

module _ (word : List ℕ) (n i : ℕ) (within : i < length word) where
  next : said n (drop i word) ≡ pick (eqb (digit_in (get_or word i 0)) 10) None (said (with_digit n (digit_in (get_or word i 0))) (drop (i + 1) word))
  unfolding said
  next = ap (said n) (drop-cons word i 0 within ∙ ap (λ k. get_or word i 0 ∷ drop k word) (sym (add-one i)))

  pub stops : digit_in (get_or word i 0) ≡ 10 → said n (drop i word) ≡ None
  stops e = next ∙ pick_yes _ _ _ (eq-eqb _ 10 e)

  pub goes_on : (digit_in (get_or word i 0) ≡ 10 → ⊥) → said n (drop i word) ≡ said (with_digit n (digit_in (get_or word i 0))) (drop (i + 1) word)
  goes_on h = next ∙ pick_no _ _ _ (ne_eqb _ 10 h)
