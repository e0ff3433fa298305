-- The text form of `margins` (docs/API.md): what a line says.
use Rattle.std.specs.Prelude.{List, [], ◌∷◌, ℕ, eqb, Option, None, Some}
use Rattle.sums.specs.Choice.{pick}
use Rattle.currency.specs.declared.Side.{Side}
use Rattle.margins.specs.declared.lines.Line.{Line}
use Rattle.margins.specs.declared.lines.Line.TheVariants.{Nothing, Holds, Bad}
use Rattle.text.specs.Decimals.{decimal_of}
use Rattle.streams.specs.Words.{same_bytes}
use Rattle.margins.specs.Words.{words_of}
use Rattle.margins.specs.Products.{product_of, names_product}
use Rattle.margins.specs.Sides.{side_of}
use Rattle.margins.specs.Figures.{figures_behind}

-- a product, a side and a notional, where the words are such
unfoldable pub holding : ℕ → Option Side → Option ℕ → Line
holding product None notional = Bad
holding product (Some side) None = Bad
holding product (Some side) (Some n) = Holds (record { product = product; side = side; notional = n })

-- "`PRODUCT SIDE NOTIONAL`"
unfoldable pub position_of : List (List ℕ) → Line
position_of [] = Bad
position_of (a ∷ []) = Bad
position_of (a ∷ b ∷ []) = Bad
position_of (a ∷ b ∷ c ∷ []) = pick (names_product a) (holding (product_of a) (side_of b) (decimal_of c)) Bad
position_of (a ∷ b ∷ c ∷ d ∷ more) = Bad

-- `figures`
abbrev pub figures_word : List ℕ
figures_word = 102 ∷ 105 ∷ 103 ∷ 117 ∷ 114 ∷ 101 ∷ 115 ∷ []

-- figures where the first word says so, and otherwise a position
unfoldable pub of_words : List (List ℕ) → Line
of_words [] = Bad
of_words (a ∷ rest) = pick (same_bytes a figures_word) (figures_behind rest) (position_of (a ∷ rest))

-- the byte of `#`
abbrev pub hash : ℕ
hash = 35

-- "An empty line and one that begins with `#` are skipped."
unfoldable pub line_says : List ℕ → Line
line_says [] = Nothing
line_says (b ∷ rest) = pick (eqb b hash) Nothing (of_words (words_of (b ∷ rest)))
