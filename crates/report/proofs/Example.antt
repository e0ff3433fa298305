-- Annexure 5's percents, `69.1` and `none`. Lines byte by byte: `7 client live 5 3 6 3 3 0 off 0`, whose TM is at place 1, `1 tm live 0 3 6 3 3 0 on 0`, `0 cm live 0 3 7 3 4 0 off 4`, `3 9`, `total 7` and `refused 1`.
use mathlib.Core.Bool.{true, false}
use mathlib.Core.List.{[], ◌∷◌}
use mathlib.Core.Path.{◌≡◌, refl}
use native.Mathlib.Omega.{arith}
use Rattle.sums.specs.Choice.{pick}
use Rattle.rows.specs.Rows.{opened_row}
use Rattle.text.specs.Numbers.{spaced, and_spaces}
use Rattle.text.proofs.Digits.{decimal-one, decimal-two}
use Rattle.report.specs.declared.holding.Percent.TheVariants.{Tenths}
use Rattle.report.specs.Holdings.{bytes_in, percent_of, percent_text}
use Rattle.report.specs.Reports.{line_front, standing_line, need_line, total_word, refused_word, word_line}

pub client-line : standing_line 7 (opened_row 2 1) 5 (record { refusal = 0; collateral = 3; need = 6; blocked = 3; deemed = 3; free = 0; mode = false; shortfall = 0 })
    ≡ 55 ∷ 32 ∷ 99 ∷ 108 ∷ 105 ∷ 101 ∷ 110 ∷ 116 ∷ 32 ∷ 108 ∷ 105 ∷ 118 ∷ 101 ∷ 32 ∷ 53 ∷ 32 ∷ 51 ∷ 32 ∷ 54 ∷ 32 ∷ 51 ∷ 32 ∷ 51 ∷ 32 ∷ 48 ∷ 32 ∷ 111 ∷ 102 ∷ 102 ∷ 32 ∷ 48 ∷ 10 ∷ []
unfolding standing_line line_front and_spaces
client-line =
    rw (
      decimal-one 7 (omega arith),
      decimal-one 5 (omega arith),
      decimal-one 3 (omega arith),
      decimal-one 6 (omega arith),
      decimal-one 0 (omega arith),
    )

pub warned-line : standing_line 1 (opened_row 1 0) 0 (record { refusal = 0; collateral = 3; need = 6; blocked = 3; deemed = 3; free = 0; mode = true; shortfall = 0 })
    ≡ 49 ∷ 32 ∷ 116 ∷ 109 ∷ 32 ∷ 108 ∷ 105 ∷ 118 ∷ 101 ∷ 32 ∷ 48 ∷ 32 ∷ 51 ∷ 32 ∷ 54 ∷ 32 ∷ 51 ∷ 32 ∷ 51 ∷ 32 ∷ 48 ∷ 32 ∷ 111 ∷ 110 ∷ 32 ∷ 48 ∷ 10 ∷ []
unfolding standing_line line_front and_spaces
warned-line =
    rw (decimal-one 1 (omega arith), decimal-one 0 (omega arith), decimal-one 3 (omega arith), decimal-one 6 (omega arith))

pub short-line : standing_line 0 (opened_row 0 0) 0 (record { refusal = 0; collateral = 3; need = 7; blocked = 3; deemed = 4; free = 0; mode = false; shortfall = 4 })
    ≡ 48 ∷ 32 ∷ 99 ∷ 109 ∷ 32 ∷ 108 ∷ 105 ∷ 118 ∷ 101 ∷ 32 ∷ 48 ∷ 32 ∷ 51 ∷ 32 ∷ 55 ∷ 32 ∷ 51 ∷ 32 ∷ 52 ∷ 32 ∷ 48 ∷ 32 ∷ 111 ∷ 102 ∷ 102 ∷ 32 ∷ 52 ∷ 10 ∷ []
unfolding standing_line line_front and_spaces
short-line =
    rw (decimal-one 0 (omega arith), decimal-one 3 (omega arith), decimal-one 7 (omega arith), decimal-one 4 (omega arith))

pub need-line : need_line 3 9 ≡ 51 ∷ 32 ∷ 57 ∷ 10 ∷ []
unfolding spaced
need-line = rw (decimal-one 3 (omega arith), decimal-one 9 (omega arith))

pub total-line : word_line total_word 7 ≡ 116 ∷ 111 ∷ 116 ∷ 97 ∷ 108 ∷ 32 ∷ 55 ∷ 10 ∷ []
unfolding word_line spaced
total-line = rw (decimal-one 7 (omega arith))

pub refused-line : word_line refused_word 1 ≡ 114 ∷ 101 ∷ 102 ∷ 117 ∷ 115 ∷ 101 ∷ 100 ∷ 32 ∷ 49 ∷ 10 ∷ []
unfolding word_line spaced
refused-line = rw (decimal-one 1 (omega arith))

-- document 02, K2: "TM1 96%", "TM2 44%", "CM 69.1%", by the uses and collaterals of rows.Annexure5
pub annexure-5 : percent_of 4800 500 ∷ percent_of 2200 500 ∷ percent_of 8300 1200 ∷ [] ≡ Tenths 960 ∷ Tenths 440 ∷ Tenths 691 ∷ []
unfolding percent_of pick
annexure-5 = refl

pub CM's-use : percent_text (Tenths 691) ≡ bytes_in "69.1"
unfolding percent_text
CM's-use = rw (decimal-two 69 (omega arith) (omega arith), decimal-one 1 (omega arith))

pub no-collateral : percent_text (percent_of 1 0) ≡ bytes_in "none"
unfolding percent_text percent_of pick
no-collateral = refl
