-- Document 02, K11: numbers of before it, when a number was its row's place.
use Rattle.std.specs.Prelude.{List, ℕ, ltb}
use Rattle.sums.specs.Choice.{pick}
use Rattle.sums.specs.Listed.{list_to}

-- "numbers equal to places below the count and 0 from there on"
abbrev pub place_numbers : ℕ → List ℕ
place_numbers count = list_to (λ i. pick (ltb i count) i 0) 256
