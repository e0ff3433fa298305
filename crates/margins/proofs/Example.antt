-- Document 02, K9: "USDINR futures of 10,000,001 paise give 50,001", from `margins 7 3 0` and a line of text to what is printed; and what other lines say.
use mathlib.Core.List.{List, [], ◌∷◌}
use mathlib.Core.Path.{◌≡◌, refl}
use Prim.Native.Nat.{ℕ}
use lib.IntN.{pos, neg_ℤ}
use Rattle.std.specs.Prelude.{Some}
use Rattle.std.specs.Option.{option_map}
use Rattle.sums.specs.Choice.{pick}
use Rattle.sums.specs.Table.{first}
use Rattle.text.specs.Numbers.{digits, decimal, spaced}
use Rattle.currency.specs.Rates.{rates, rate_of}
use Rattle.currency.specs.Charges.{fault_of, first_fault, charge_of, charges}
use Rattle.currency.specs.Margins.{sum_of}
use Rattle.currency.specs.declared.Side.TheVariants.{Futures}
use Rattle.exposure.specs.Joined.{joined_sum, refusal_of, joined_of}
use Rattle.margins.specs.declared.lines.Line.TheVariants.{Holds, Told, Bad}
use Rattle.text.specs.Decimals.{said, decimal_of}
use Rattle.streams.specs.Words.{same_bytes}
use Rattle.margins.specs.Words.{place_in, parted_by}
use Rattle.margins.specs.Products.{all_capitals_or_digits, names_product}
use Rattle.margins.specs.Sides.{side_of}
use Rattle.margins.specs.Figures.{figure_of, told, figures_behind}
use Rattle.margins.specs.Lines.{holding, position_of, of_words, line_says}
use Rattle.margins.specs.Positions.{positions_in, first_of, figures_in, first_bad, held_by, held_in}
use Rattle.margins.specs.Asked.{asked_for, asked_by_words}
use Rattle.margins.specs.Printed.{line_made, printed_for}

-- `USDINR futures 10000001`, with the newline
abbrev line : List ℕ
line = 85 ∷ 83 ∷ 68 ∷ 73 ∷ 78 ∷ 82 ∷ 32 ∷ 102 ∷ 117 ∷ 116 ∷ 117 ∷ 114 ∷ 101 ∷ 115 ∷ 32 ∷ 49 ∷ 48 ∷ 48 ∷ 48 ∷ 48 ∷ 48 ∷ 48 ∷ 49 ∷ 10 ∷ []

-- `0 50001`
pub paper : option_map (λ asked. printed_for asked (held_in line)) (asked_by_words 4 (55 ∷ []) (51 ∷ []) (48 ∷ []) [])
    ≡ Some (48 ∷ 32 ∷ 53 ∷ 48 ∷ 48 ∷ 48 ∷ 49 ∷ 10 ∷ [])
unfolding printed_for line_made held_in held_by asked_by_words asked_for parted_by line_says of_words position_of holding side_of place_in same_bytes names_product all_capitals_or_digits decimal_of said positions_in first_of figures_in first_bad figures_behind figure_of told joined_of joined_sum refusal_of sum_of charges charge_of first_fault fault_of first rate_of rates spaced decimal digits pick
paper = refl

-- `GOLD futures 1`: an unknown product
pub gold : line_says (71 ∷ 79 ∷ 76 ∷ 68 ∷ 32 ∷ 102 ∷ 117 ∷ 116 ∷ 117 ∷ 114 ∷ 101 ∷ 115 ∷ 32 ∷ 49 ∷ []) ≡ Holds (record { product = 10; side = Futures; notional = 1 })
unfolding parted_by line_says of_words position_of holding side_of place_in same_bytes names_product all_capitals_or_digits decimal_of said figures_behind figure_of told pick
gold = refl

-- `figures -30 80`
pub third-client : line_says (102 ∷ 105 ∷ 103 ∷ 117 ∷ 114 ∷ 101 ∷ 115 ∷ 32 ∷ 45 ∷ 51 ∷ 48 ∷ 32 ∷ 56 ∷ 48 ∷ []) ≡ Told (record { premium = neg_ℤ (pos 30); loss = pos 80; exercise = pos 0; settlement = pos 0 })
unfolding parted_by line_says of_words position_of holding side_of place_in same_bytes names_product all_capitals_or_digits decimal_of said figures_behind figure_of told pick
third-client = refl

-- `USDINR  futures 1`, and `USDINR futures 1 ` with a space at the end
pub two-spaces : line_says (85 ∷ 83 ∷ 68 ∷ 73 ∷ 78 ∷ 82 ∷ 32 ∷ 32 ∷ 102 ∷ 117 ∷ 116 ∷ 117 ∷ 114 ∷ 101 ∷ 115 ∷ 32 ∷ 49 ∷ []) ≡ Bad
unfolding parted_by line_says of_words position_of holding side_of place_in same_bytes names_product all_capitals_or_digits decimal_of said figures_behind figure_of told pick
two-spaces = refl

pub last-space : line_says (85 ∷ 83 ∷ 68 ∷ 73 ∷ 78 ∷ 82 ∷ 32 ∷ 102 ∷ 117 ∷ 116 ∷ 117 ∷ 114 ∷ 101 ∷ 115 ∷ 32 ∷ 49 ∷ 32 ∷ []) ≡ Bad
unfolding parted_by line_says of_words position_of holding side_of place_in same_bytes names_product all_capitals_or_digits decimal_of said figures_behind figure_of told pick
last-space = refl

-- `figures 1 2` twice, with an empty line between: line 3 is told
pub figures-again : (held_in (102 ∷ 105 ∷ 103 ∷ 117 ∷ 114 ∷ 101 ∷ 115 ∷ 32 ∷ 49 ∷ 32 ∷ 50 ∷ 10 ∷ 10 ∷ 102 ∷ 105 ∷ 103 ∷ 117 ∷ 114 ∷ 101 ∷ 115 ∷ 32 ∷ 49 ∷ 32 ∷ 50 ∷ 10 ∷ [])).bad ≡ Some 3
unfolding held_in held_by first_bad parted_by line_says of_words position_of holding side_of place_in same_bytes names_product all_capitals_or_digits decimal_of said figures_behind figure_of told pick
figures-again = refl
