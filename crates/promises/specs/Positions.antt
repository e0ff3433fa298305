-- K9: "in that order, 18 to 20 by first position at fault, the initial margin after them".
use Rattle.std.specs.Prelude.{List, [], ◌∷◌, ◌++◌, ◌≡◌, ℕ, ◌<◌, ltb, length, take, get_or}
use Rattle.sums.specs.Table.{Line, ◌when◌}
use Rattle.currency.specs.declared.Side.TheVariants.{Futures}
use Rattle.currency.specs.declared.Position.{Position}
use Rattle.currency.specs.Charges.{faults, fault_of}

-- the position at a place of the list; none past its end is asked for
abbrev pub position_at : List Position → ℕ → Position
position_at positions i = get_or positions i (record { product = 0; side = Futures; notional = 0 })

-- "first position at fault": the position at this place has the fault n, and none before it has any
pub record FirstAtFault (positions : List Position) (n : ℕ) : Type 0 where
  pub place : ℕ
  pub inside : place < length positions
  pub fault : fault_of (position_at positions place) ≡ n
  pub before : (i : ℕ) → i < place → fault_of (position_at positions i) ≡ 0

-- no position has a fault
abbrev pub NoneAtFault : List Position → Type 0
NoneAtFault positions = (i : ℕ) → i < length positions → fault_of (position_at positions i) ≡ 0

-- each position's lines, one position after the other
abbrev pub position_lines : List Position → List Line
position_lines [] = []
position_lines (p ∷ rest) = faults p ++ position_lines rest

-- "15 over 64 positions", then the lines of those that are handed over, then the last ones
abbrev pub in_turn : ℕ → List Position → List Line → List Line
in_turn number positions last = (15 when ltb 64 number) ∷ (position_lines (take number positions) ++ last)
