-- Document 02, K9: the products, in the paper's order, and their words in the text form of `margins` (docs/API.md).
use Rattle.std.specs.Prelude.{Bool, true, ◌&&◌, ◌||◌, List, [], ◌∷◌, ℕ, leb, ltb, length}
use Rattle.margins.specs.Words.{place_in}

-- "the products EURINR EURUSD GBPINR GBPUSD JPYINR USDINR USDJPY INTEREST TBILL91 ONMIBOR"
abbrev pub products : List (List ℕ)
products =
    (69 ∷ 85 ∷ 82 ∷ 73 ∷ 78 ∷ 82 ∷ [])  -- EURINR
    ∷ (69 ∷ 85 ∷ 82 ∷ 85 ∷ 83 ∷ 68 ∷ [])  -- EURUSD
    ∷ (71 ∷ 66 ∷ 80 ∷ 73 ∷ 78 ∷ 82 ∷ [])  -- GBPINR
    ∷ (71 ∷ 66 ∷ 80 ∷ 85 ∷ 83 ∷ 68 ∷ [])  -- GBPUSD
    ∷ (74 ∷ 80 ∷ 89 ∷ 73 ∷ 78 ∷ 82 ∷ [])  -- JPYINR
    ∷ (85 ∷ 83 ∷ 68 ∷ 73 ∷ 78 ∷ 82 ∷ [])  -- USDINR
    ∷ (85 ∷ 83 ∷ 68 ∷ 74 ∷ 80 ∷ 89 ∷ [])  -- USDJPY
    ∷ (73 ∷ 78 ∷ 84 ∷ 69 ∷ 82 ∷ 69 ∷ 83 ∷ 84 ∷ [])  -- INTEREST
    ∷ (84 ∷ 66 ∷ 73 ∷ 76 ∷ 76 ∷ 57 ∷ 49 ∷ [])  -- TBILL91
    ∷ (79 ∷ 78 ∷ 77 ∷ 73 ∷ 66 ∷ 79 ∷ 82 ∷ [])  -- ONMIBOR
    ∷ []

-- a product's number is its place; 10 for any other
abbrev pub product_of : List ℕ → ℕ
product_of word = place_in products word

-- `A` to `Z`, or `0` to `9`
abbrev pub capital_or_digit : ℕ → Bool
capital_or_digit b = leb 65 b && leb b 90 || leb 48 b && leb b 57

unfoldable pub all_capitals_or_digits : List ℕ → Bool
all_capitals_or_digits [] = true
all_capitals_or_digits (b ∷ rest) = capital_or_digit b && all_capitals_or_digits rest

-- "any other word of capital letters and digits is an unknown product"
unfoldable pub names_product : List ℕ → Bool
names_product word = all_capitals_or_digits word && ltb 0 (length word)
