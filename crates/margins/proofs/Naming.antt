-- Whether a word may name a product.
use Rattle.std.proofs.Common.{◌≡◌, ℕ, ◌&&◌, ltb, List, [], ◌∷◌, length, refl, ap, not, nat_eq, arith, lt-ltb, eq-eqb, ne_eqb}
use Rattle.std.specs.List.{list_all}
use Rattle.margins.specs.Products.{capital_or_digit, all_capitals_or_digits, names_product}

all-named : (word : List ℕ) → list_all capital_or_digit word ≡ all_capitals_or_digits word
unfolding all_capitals_or_digits
all-named [] = refl
all-named (b ∷ rest) = ap (λ t. capital_or_digit b && t) (all-named rest)

not_empty : (word : List ℕ) → not (nat_eq (length word) 0) ≡ ltb 0 (length word)
not_empty [] = ap not (eq-eqb 0 0 refl)
not_empty (b ∷ rest) = rw (ne_eqb (length (b ∷ rest)) 0 (λ e. omega arith), lt-ltb 0 (length (b ∷ rest)) (omega arith))

pub names : (word : List ℕ) → (list_all capital_or_digit word && not (nat_eq (length word) 0)) ≡ names_product word
unfolding names_product
names word = rw (all-named word, not_empty word)
