-- The text form of `margins` (docs/API.md): "the sides `futures`, `short`, `long`, `spread`".
use Rattle.std.specs.Prelude.{List, [], ◌∷◌, ℕ, Option, None, Some}
use Rattle.sums.specs.Choice.{pick}
use Rattle.currency.specs.declared.Side.{Side}
use Rattle.currency.specs.declared.Side.TheVariants.{Futures, Short, Long, Spread}
use Rattle.streams.specs.Words.{same_bytes}

abbrev pub futures_word : List ℕ
futures_word = 102 ∷ 117 ∷ 116 ∷ 117 ∷ 114 ∷ 101 ∷ 115 ∷ []

abbrev pub short_word : List ℕ
short_word = 115 ∷ 104 ∷ 111 ∷ 114 ∷ 116 ∷ []

abbrev pub long_word : List ℕ
long_word = 108 ∷ 111 ∷ 110 ∷ 103 ∷ []

abbrev pub spread_word : List ℕ
spread_word = 115 ∷ 112 ∷ 114 ∷ 101 ∷ 97 ∷ 100 ∷ []

-- the side that a word is
unfoldable pub side_of : List ℕ → Option Side
side_of word =
    pick (same_bytes word futures_word) (Some Futures)
    (pick (same_bytes word short_word) (Some Short)
    (pick (same_bytes word long_word) (Some Long)
    (pick (same_bytes word spread_word) (Some Spread) None)))
