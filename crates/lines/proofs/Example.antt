-- Two lines of document 01's example, byte by byte: `4 10 2 13 0` and `end 5 4`.
use mathlib.Core.List.{[], ◌∷◌}
use mathlib.Core.Path.{◌≡◌, refl}
use Rattle.sums.specs.Choice.{pick}
use Rattle.records.specs.declared.Closing.TheVariants.{End}
use Rattle.records.specs.LineNumbers.{numbers_of_line}
use Rattle.desk.specs.declared.Outcome.TheVariants.{Refused}
use Rattle.text.specs.Numbers.{digits, decimal, spaced}
use Rattle.lines.specs.Lines.{line_of, closing_line_of}

pub fifth-line : line_of (record { serial = 4; code = 10; account = 2; outcome = Refused 13 })
    ≡ 52 ∷ 32 ∷ 49 ∷ 48 ∷ 32 ∷ 50 ∷ 32 ∷ 49 ∷ 51 ∷ 32 ∷ 48 ∷ 10 ∷ []
unfolding line_of spaced numbers_of_line decimal digits pick
fifth-line = refl

pub last_line : closing_line_of End 5 4 ≡ 101 ∷ 110 ∷ 100 ∷ 32 ∷ 53 ∷ 32 ∷ 52 ∷ 10 ∷ []
unfolding closing_line_of spaced decimal digits pick
last_line = refl
