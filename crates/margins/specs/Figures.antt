-- The text form of `margins` (docs/API.md): "`figures PREMIUM LOSS` or `figures PREMIUM LOSS EXERCISE SETTLEMENT`".
use Rattle.std.specs.Prelude.{List, [], ◌∷◌, ℕ, eqb, leb, ℤ, pos, negsuc, neg_ℤ, Option, None, Some}
use Rattle.sums.specs.Choice.{pick}
use Rattle.margins.specs.declared.lines.Line.{Line}
use Rattle.margins.specs.declared.lines.Line.TheVariants.{Told, Bad}
use Rattle.text.specs.Decimals.{decimal_of}

-- the largest of eight bytes with a sign; the least is one further below 0 than this is above
abbrev pub largest_signed : ℕ
largest_signed = 9223372036854775807

-- "one that does not fit eight bytes counts as the largest or the least that does"
abbrev pub above_zero : ℕ → ℤ
above_zero n = pick (leb n largest_signed) (pos n) (pos largest_signed)

abbrev pub below_zero : ℕ → ℤ
below_zero n = pick (leb n largest_signed) (neg_ℤ (pos n)) (negsuc largest_signed)

-- a number on its side of 0
abbrev pub on_side : (ℕ → ℤ) → Option ℕ → Option ℤ
on_side side (Some n) = Some (side n)
on_side side None = None

-- the byte of `-`
abbrev pub minus : ℕ
minus = 45

-- "a decimal number with `-` in front if it is below 0"
unfoldable pub figure_of : List ℕ → Option ℤ
figure_of [] = None
figure_of (b ∷ rest) = pick (eqb b minus) (on_side below_zero (decimal_of rest)) (on_side above_zero (decimal_of (b ∷ rest)))

-- each of the four is a figure
unfoldable pub told : Option ℤ → Option ℤ → Option ℤ → Option ℤ → Line
told None loss exercise settlement = Bad
told (Some p) None exercise settlement = Bad
told (Some p) (Some l) None settlement = Bad
told (Some p) (Some l) (Some e) None = Bad
told (Some p) (Some l) (Some e) (Some s) = Told (record { premium = p; loss = l; exercise = e; settlement = s })

-- what the words behind `figures` tell: two figures, with the other two 0, or four
unfoldable pub figures_behind : List (List ℕ) → Line
figures_behind [] = Bad
figures_behind (a ∷ []) = Bad
figures_behind (a ∷ b ∷ []) = told (figure_of a) (figure_of b) (Some (pos 0)) (Some (pos 0))
figures_behind (a ∷ b ∷ c ∷ []) = Bad
figures_behind (a ∷ b ∷ c ∷ d ∷ []) = told (figure_of a) (figure_of b) (figure_of c) (figure_of d)
figures_behind (a ∷ b ∷ c ∷ d ∷ e ∷ more) = Bad
