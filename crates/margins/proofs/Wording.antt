-- What a line's words say: the last of them goes up to the line's end, and a space in it leaves it no number.
use mathlib.Core.Bool.{Bool, true, false, false≢true}
use mathlib.Core.List.{List, [], ◌∷◌}
use mathlib.Core.Logic.{◌⊎◌, ⊎_elim}
use mathlib.Core.Path.{◌≡◌, refl, sym, ap, ◌∙◌}
use Prim.Native.Nat.{ℕ, suc, ◌+◌, ◌-◌, ◌<◌}
use native.Mathlib.Nat.{eq-or-lt_of_le}
use native.Mathlib.Omega.{arith}
use borrow.Author.Tests.{eqb-true, eq-eqb, ne_eqb}
use lib.Dec.{eqb}
use lib.IntN.{pos}
use lib.ListN.{length, take, drop, get_or}
use Rattle.sums.specs.Choice.{pick}
use Rattle.sums.proofs.Choices.{pick_yes, pick_no}
use Rattle.text.specs.Numbers.{space}
use Rattle.std.specs.Prelude.{ℤ, Option, None, Some}
use Rattle.currency.specs.declared.Side.{Side}
use Rattle.margins.specs.declared.lines.Line.{Line}
use Rattle.margins.specs.declared.lines.Line.TheVariants.{Nothing, Bad}
use Rattle.text.specs.Decimals.{digit_in, with_digit, said, decimal_of}
use Rattle.streams.specs.Words.{same_bytes}
use Rattle.margins.specs.Words.{words_of}
use Rattle.margins.specs.Products.{product_of, names_product}
use Rattle.margins.specs.Sides.{side_of}
use Rattle.margins.specs.Figures.{above_zero, below_zero, on_side, minus, figure_of, told, figures_behind}
use Rattle.margins.specs.Lines.{holding, position_of, figures_word, of_words, hash, line_says}
use Rattle.margins.specs.Inner.{in_front}
use Rattle.margins.proofs.Parting.{in-front-most, parted-whole, parted-first, parted-some, behind}

-- a space stands in a text, or none does
abbrev Spaced : List ℕ → Type 0
Spaced l = in_front space l < length l

abbrev One : List ℕ → Type 0
One l = in_front space l ≡ length l

-- what stands behind the mark at n, as the code takes it from the text
abbrev rest_from : ℕ → List ℕ → List ℕ
rest_from n l = take (length l - (n + 1)) (drop (n + 1) l)

first_of : (l : List ℕ) (n : ℕ) → n ≡ in_front space l → n < length l → words_of l ≡ take n l ∷ words_of (rest_from n l)
first_of l n front h =
    parted-first space l (omega arith)
    ∙ ap (λ k. take k l ∷ words_of (drop (suc k) l)) (sym front)
    ∙ ap (λ r. take n l ∷ words_of r) (sym (behind l n))

either : (l : List ℕ) → One l ⊎ Spaced l
either l = eq-or-lt_of_le (in-front-most space l)

-- s is whether the byte is no digit, t whether it is the space
said-by : (s t : Bool) {k n : ℕ} {d : Option ℕ} → (t ≡ true → s ≡ true) → pick t 0 (suc k) < suc n → (k < n → d ≡ None) → pick s None d ≡ None
unfolding pick
said-by true t h e more = refl
said-by false true h e more = absurd (false≢true (h refl))
said-by false false h e more = more (omega arith)

space-no-digit : (b : ℕ) → eqb b space ≡ true → eqb (digit_in b) 10 ≡ true
unfolding pick
space-no-digit b e = rw (eqb-true b space e)

no-said : (n : ℕ) (l : List ℕ) → Spaced l → said n l ≡ None
unfolding said in_front
no-said n [] h = absurd (omega arith)
no-said n (b ∷ rest) h = said-by (eqb (digit_in b) 10) (eqb b space) (space-no-digit b) h (no-said (with_digit n (digit_in b)) rest)

no_number : (l : List ℕ) → Spaced l → decimal_of l ≡ None
unfolding decimal_of
no_number [] h = absurd (omega arith)
no_number (b ∷ rest) h = no-said 0 (b ∷ rest) h

figure-by : (m t : Bool) (b : ℕ) (rest : List ℕ) {k : ℕ} → (t ≡ true → m ≡ false) → pick t 0 (suc k) < suc (length rest) → (k < length rest → decimal_of rest ≡ None)
    → decimal_of (b ∷ rest) ≡ None → pick m (on_side below_zero (decimal_of rest)) (on_side above_zero (decimal_of (b ∷ rest))) ≡ None
unfolding pick
figure-by true true b rest h e behind whole = absurd (false≢true (sym (h refl)))
figure-by true false b rest h e behind whole = ap (on_side below_zero) (behind (omega arith))
figure-by false t b rest h e behind whole = ap (on_side above_zero) whole

space-no-minus : (b : ℕ) → eqb b space ≡ true → eqb b minus ≡ false
space-no-minus b e = rw (eqb-true b space e)

no-figure : (l : List ℕ) → Spaced l → figure_of l ≡ None
unfolding figure_of in_front
no-figure [] h = absurd (omega arith)
no-figure (b ∷ rest) h = figure-by (eqb b minus) (eqb b space) b rest (space-no-minus b) h (no_number rest) (no_number (b ∷ rest) h)

-- positions
held_none : (product : ℕ) (side : Option Side) → holding product side None ≡ Bad
unfolding holding
held_none product (Some s) = refl
held_none product None = refl

either-bad : (t : Bool) → pick t Bad Bad ≡ Bad
unfolding pick
either-bad true = refl
either-bad false = refl

more-words : (a b c : List ℕ) (more : List (List ℕ)) → 0 < length more → position_of (a ∷ b ∷ c ∷ more) ≡ Bad
unfolding position_of
more-words a b c [] h = absurd (omega arith)
more-words a b c (d ∷ more) h = refl

-- the words of l, behind the product a: the first n bytes are one, and a space stands behind them where there are more
module _ (a l : List ℕ) (n : ℕ) (front : n ≡ in_front space l) where
  pub no-side : n ≡ length l → Bad ≡ position_of (a ∷ words_of l)
  unfolding position_of
  no-side h = sym (ap (λ ws. position_of (a ∷ ws)) (parted-whole space l (sym front ∙ h)))

  abbrev held_by : List ℕ → List ℕ → Line
  held_by b c = pick (names_product a) (holding (product_of a) (side_of b) (decimal_of c)) Bad

  three-words : (b c : List ℕ) → held_by b c ≡ position_of (a ∷ b ∷ words_of c)
  unfolding position_of
  three-words b c =
      ⊎_elim
      (λ (h : One c). sym (ap (λ ws. position_of (a ∷ b ∷ ws)) (parted-whole space c h)))
      (λ (h : Spaced c). ap (λ d. pick (names_product a) (holding (product_of a) (side_of b) d) Bad) (no_number c h)
      ∙ ap (λ x. pick (names_product a) x Bad) (held_none (product_of a) (side_of b))
      ∙ either-bad (names_product a)
      ∙ sym (ap (λ ws. position_of (a ∷ b ∷ ws)) (parted-first space c h) ∙ more-words a b (take (in_front space c) c) (words_of (drop (suc (in_front space c)) c)) (parted-some space (drop (suc (in_front space c)) c))))
      (either c)

  a-side : n < length l → held_by (take n l) (rest_from n l) ≡ position_of (a ∷ words_of l)
  a-side h = three-words (take n l) (rest_from n l) ∙ sym (ap (λ ws. position_of (a ∷ ws)) (first_of l n front h))

  pub no-product : {t : Bool} → n < length l → t ≡ names_product a → t ≡ false → Bad ≡ position_of (a ∷ words_of l)
  no-product h e f = sym (pick_no (names_product a) _ _ (sym e ∙ f)) ∙ a-side h

  pub one-position : {t : Bool} {p : ℕ} {s : Option Side} {d : Option ℕ} → n < length l → t ≡ names_product a → t ≡ true → p ≡ product_of a → s ≡ side_of (take n l)
      → d ≡ decimal_of (rest_from n l) → holding p s d ≡ position_of (a ∷ words_of l)
  one-position h e f ep es ed = cc (ep, es, ed, pick_yes (names_product a) (holding (product_of a) (side_of (take n l)) (decimal_of (rest_from n l))) Bad (sym e ∙ f), a-side h)

-- figures
told_none : (a b c : Option ℤ) → told a b c None ≡ Bad
unfolding told
told_none None b c = refl
told_none (Some p) None c = refl
told_none (Some p) (Some q) None = refl
told_none (Some p) (Some q) (Some r) = refl

more-figures : (a b c d : List ℕ) (more : List (List ℕ)) → 0 < length more → figures_behind (a ∷ b ∷ c ∷ d ∷ more) ≡ Bad
unfolding figures_behind
more-figures a b c d [] h = absurd (omega arith)
more-figures a b c d (e ∷ more) h = refl

module _ (a b l : List ℕ) (n : ℕ) (front : n ≡ in_front space l) where
  pub three-figures : n ≡ length l → Bad ≡ figures_behind (a ∷ b ∷ words_of l)
  unfolding figures_behind
  three-figures h = sym (ap (λ ws. figures_behind (a ∷ b ∷ ws)) (parted-whole space l (sym front ∙ h)))

  last-figure : (c d : List ℕ) → told (figure_of a) (figure_of b) (figure_of c) (figure_of d) ≡ figures_behind (a ∷ b ∷ c ∷ words_of d)
  unfolding figures_behind
  last-figure c d =
      ⊎_elim
      (λ (h : One d). sym (ap (λ ws. figures_behind (a ∷ b ∷ c ∷ ws)) (parted-whole space d h)))
      (λ (h : Spaced d). ap (told (figure_of a) (figure_of b) (figure_of c)) (no-figure d h)
      ∙ told_none (figure_of a) (figure_of b) (figure_of c)
      ∙ sym (ap (λ ws. figures_behind (a ∷ b ∷ c ∷ ws)) (parted-first space d h) ∙ more-figures a b c (take (in_front space d) d) (words_of (drop (suc (in_front space d)) d)) (parted-some space (drop (suc (in_front space d)) d))))
      (either d)

  pub four-figures : {f g h k : Option ℤ} → n < length l → f ≡ figure_of a → g ≡ figure_of b → h ≡ figure_of (take n l) → k ≡ figure_of (rest_from n l)
      → told f g h k ≡ figures_behind (a ∷ b ∷ words_of l)
  four-figures m ef eg eh ek = cc (ef, eg, eh, ek, last-figure (take n l) (rest_from n l), first_of l n front m)

module _ (l : List ℕ) (n : ℕ) (front : n ≡ in_front space l) where
  pub one-figure : n ≡ length l → Bad ≡ figures_behind (words_of l)
  unfolding figures_behind
  one-figure h = sym (ap figures_behind (parted-whole space l (sym front ∙ h)))

  pub two-figures : {f g : Option ℤ} {m : ℕ} → n < length l → m ≡ in_front space (rest_from n l) → m ≡ length (rest_from n l) → f ≡ figure_of (take n l) → g ≡ figure_of (rest_from n l)
      → told f g (Some (pos 0)) (Some (pos 0)) ≡ figures_behind (words_of l)
  unfolding figures_behind
  two-figures h e one ef eg =
      cc (ef, eg)
      ∙ sym (ap figures_behind (first_of l n front h ∙ ap (λ ws. take n l ∷ ws) (parted-whole space (rest_from n l) (sym e ∙ one))))

  pub more-figures-on : (m : ℕ) → n < length l → m ≡ in_front space (rest_from n l) → m < length (rest_from n l)
      → figures_behind (take n l ∷ take m (rest_from n l) ∷ words_of (rest_from m (rest_from n l))) ≡ figures_behind (words_of l)
  more-figures-on m h e k = sym (ap figures_behind (first_of l n front h ∙ ap (λ ws. take n l ∷ ws) (first_of (rest_from n l) m e k)))

  -- lines
  pub one_word : n ≡ length l → Bad ≡ of_words (words_of l)
  unfolding of_words figures_behind position_of
  one_word h = sym (ap of_words (parted-whole space l (sym front ∙ h)) ∙ either-bad (same_bytes l figures_word))

  pub by-figures : {t : Bool} → n < length l → t ≡ same_bytes (take n l) figures_word → t ≡ true → figures_behind (words_of (rest_from n l)) ≡ of_words (words_of l)
  unfolding of_words
  by-figures h e f = sym (ap of_words (first_of l n front h) ∙ pick_yes _ _ _ (sym e ∙ f))

  pub by-position : {t : Bool} → n < length l → t ≡ same_bytes (take n l) figures_word → t ≡ false → position_of (take n l ∷ words_of (rest_from n l)) ≡ of_words (words_of l)
  unfolding of_words
  by-position h e f = sym (ap of_words (first_of l n front h) ∙ pick_no _ _ _ (sym e ∙ f))

pub empty-line : (l : List ℕ) → length l ≡ 0 → Nothing ≡ line_says l
unfolding line_says
empty-line [] h = refl
empty-line (b ∷ rest) h = absurd (omega arith)

pub remark : (l : List ℕ) → (length l ≡ 0 → ⊥) → get_or l 0 0 ≡ hash → Nothing ≡ line_says l
unfolding line_says
remark [] h e = absurd (h refl)
remark (b ∷ rest) h e = sym (pick_yes _ _ _ (eq-eqb b hash e))

pub has_words : (l : List ℕ) → (length l ≡ 0 → ⊥) → (get_or l 0 0 ≡ hash → ⊥) → of_words (words_of l) ≡ line_says l
unfolding line_says
has_words [] h e = absurd (h refl)
has_words (b ∷ rest) h e = sym (pick_no _ _ _ (ne_eqb b hash e))

-- a figure's sign
pub no_bytes : (w : List ℕ) → length w ≡ 0 → None ≡ figure_of w
unfolding figure_of
no_bytes [] h = refl
no_bytes (b ∷ rest) h = absurd (omega arith)

pub below-zero : (w : List ℕ) → (length w ≡ 0 → ⊥) → get_or w 0 0 ≡ minus → on_side below_zero (decimal_of (drop 1 w)) ≡ figure_of w
unfolding figure_of
below-zero [] h e = absurd (h refl)
below-zero (b ∷ rest) h e = sym (pick_yes _ _ _ (eq-eqb b minus e))

pub above_zero_lem : (w : List ℕ) → (length w ≡ 0 → ⊥) → (get_or w 0 0 ≡ minus → ⊥) → on_side above_zero (decimal_of w) ≡ figure_of w
unfolding figure_of
above_zero_lem [] h e = absurd (h refl)
above_zero_lem (b ∷ rest) h e = sym (pick_no _ _ _ (ne_eqb b minus e))
