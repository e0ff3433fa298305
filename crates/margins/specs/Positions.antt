-- The text form of `margins` (docs/API.md): what the lines of the input hold together.
use Rattle.std.specs.Prelude.{Bool, true, false, List, [], ◌∷◌, map, ℕ, zero, suc, length, Option, None, Some}
use Rattle.sums.specs.Choice.{pick}
use Rattle.currency.specs.declared.Position.{Position}
use Rattle.currency.specs.declared.Side.TheVariants.{Futures}
use Rattle.margins.specs.declared.figures.Figures.{Figures}
use Rattle.margins.specs.declared.lines.Line.{Line}
use Rattle.margins.specs.declared.lines.Line.TheVariants.{Nothing, Holds, Told, Bad}
use Rattle.margins.specs.declared.positions.Held.{Held}
use Rattle.margins.specs.Words.{lines_in}
use Rattle.margins.specs.Lines.{line_says}

-- the positions that lines hold, in their order
unfoldable pub positions_in : List Line → List Position
positions_in [] = []
positions_in (Nothing ∷ rest) = positions_in rest
positions_in (Holds p ∷ rest) = p ∷ positions_in rest
positions_in (Told f ∷ rest) = positions_in rest
positions_in (Bad ∷ rest) = positions_in rest

abbrev pub no_position : Position
no_position = record { product = 0; side = Futures; notional = 0 }

-- the first so many of a list; places left over hold none
unfoldable pub first_of : ℕ → List Position → List Position
first_of zero positions = []
first_of (suc n) [] = no_position ∷ first_of n []
first_of (suc n) (p ∷ rest) = p ∷ first_of n rest

-- the figures that the first such line tells, where one does
unfoldable pub figures_in : List Line → Option Figures
figures_in [] = None
figures_in (Nothing ∷ rest) = figures_in rest
figures_in (Holds p ∷ rest) = figures_in rest
figures_in (Told f ∷ rest) = Some f
figures_in (Bad ∷ rest) = figures_in rest

-- "At most one line is `figures ..`": the number of the first line that tells figures again or is of another form. The lines
-- are counted from n, and `told` is whether figures were told before them
unfoldable pub first_bad : Bool → ℕ → List Line → Option ℕ
first_bad told n [] = None
first_bad told n (Nothing ∷ rest) = first_bad told (suc n) rest
first_bad told n (Holds p ∷ rest) = first_bad told (suc n) rest
first_bad told n (Told f ∷ rest) = pick told (Some n) (first_bad true (suc n) rest)
first_bad told n (Bad ∷ rest) = Some n

-- what lines hold: the first 64 positions and how many there are, the figures, and the first line that is none of these
unfoldable pub held_by : List Line → Held
held_by lines = record {
  positions = first_of 64 (positions_in lines);
  number = length (positions_in lines);
  figures = figures_in lines;
  bad = first_bad false 1 lines;
}

-- what each line of a text says
abbrev pub said_in : List ℕ → List Line
said_in text = map line_says (lines_in text)

-- what a text holds
unfoldable pub held_in : List ℕ → Held
held_in text = held_by (said_in text)
