-- Document 01, 'Refusal numbers, in order of checking': "given exactly when".
use Rattle.std.specs.Prelude.{List, ◌≡◌, ℕ}
use Rattle.sums.specs.Table.{Line, Given}

-- k, a number other than 0, is given exactly when its test holds and no earlier line's does
abbrev pub InOrder : ℕ → ℕ → List Line → Type 0
InOrder given k table = (given ≡ k → Given k table) × (Given k table → given ≡ k)
