-- What the programs `standings`, `needs` and `closeouts` print behind the closing line, byte by byte (`holdings`: Holdings.antt). Document 01 has none of
-- them; their lines are laid down in docs/DECISIONS.md, 29.
use Rattle.std.specs.Prelude.{Bool, true, false, List, [], ◌∷◌, ◌++◌, ℕ, zero, suc, ◌+◌, ◌*◌, ◌/◌, min, length, get_or}
use Rattle.sums.specs.Choice.{pick}
use Rattle.rows.specs.declared.Row.{Row}
use Rattle.rows.specs.declared.Book.{Book}
use Rattle.rows.specs.View.{need}
use Rattle.rows.specs.Rows.{row_at, number_at, view}
use Rattle.book.specs.declared.Figures.{Figures}
use Rattle.book.specs.Sound.{sound_b}
use Rattle.book.specs.Asked.{standing_of}
use Rattle.text.specs.Numbers.{space, newline, followed, spaced, and_spaces}
use Rattle.text.specs.Words.{and_space, sort_word}

-- "A book holds at most 256 accounts": a count beyond that names no further row
abbrev pub accounts : ℕ → ℕ
accounts count = min count 256

-- `live` or `retired`
abbrev pub state_word : Bool → List ℕ
state_word true = 108 ∷ 105 ∷ 118 ∷ 101 ∷ []  -- l i v e
state_word false = 114 ∷ 101 ∷ 116 ∷ 105 ∷ 114 ∷ 101 ∷ 100 ∷ []  -- r e t i r e d

-- document 02, K2: "Mode is .. shown in a standing": `standings` prints `on` or `off` as one more word
abbrev pub mode_word : Bool → List ℕ
mode_word true = 111 ∷ 110 ∷ []  -- o n
mode_word false = 111 ∷ 102 ∷ 102 ∷ []  -- o f f

-- what an account's line begins with: number, `cm`/`tm`/`client`/`cp`, `live`/`retired`, its TM or 0
unfoldable pub line_front : ℕ → Row → ℕ → List ℕ
line_front number row tm =
    followed number space ++ (and_space (sort_word row.sort) ++ (and_space (state_word row.live) ++ followed tm space))

-- the lines of the first n rows, in rising number
unfoldable pub lines_of : (ℕ → List ℕ) → ℕ → List ℕ
lines_of line zero = []
lines_of line (suc n) = lines_of line n ++ line n

-- the five figures
abbrev pub five_of : Figures → List ℕ
five_of f = f.collateral ∷ f.need ∷ f.blocked ∷ f.deemed ∷ f.free ∷ []

-- a line per account: the five figures, `on`/`off`; document 02, K8: the shortfall "is shown in a standing of account 0", behind them as one more number
unfoldable pub standing_line : ℕ → Row → ℕ → Figures → List ℕ
standing_line number row tm f =
    line_front number row tm ++ (and_spaces (five_of f) ++ (and_space (mode_word f.mode) ++ followed f.shortfall newline))

-- document 02, K11: the line of the row at place i, by its number and its TM's; the TM word of a row that is no client is 0, as is the number there
unfoldable pub line_at : Book → ℕ → List ℕ
line_at b i = standing_line (number_at b i) (row_at b i) (number_at b (row_at b i).tm) (standing_of b (number_at b i))

-- `standings`: the closing line, then a line per account
unfoldable pub standings_text : Book → List ℕ
standings_text b = lines_of (line_at b) (accounts b.count)

-- a line per account: number, need
abbrev pub need_line : ℕ → ℕ → List ℕ
need_line number n = spaced (number ∷ n ∷ [])

-- of the first n rows: each one's number and need
abbrev pub need_lines : (ℕ → ℕ) → (ℕ → ℕ) → ℕ → List ℕ
need_lines numbers needs n = lines_of (λ i. need_line (numbers i) (needs i)) n

-- document 02, K3: "all needs in one list"; `needs`: the closing line, then a line per account. A book that is not sound has no line
unfoldable pub needs_text : Book → List ℕ
needs_text b = pick (sound_b b) (need_lines (number_at b) (need (view b)) b.count) []

-- a line per account: number, loss, the four amounts, which stand from place 4 i on; "Losses in a close-out are listed by row held"
unfoldable pub loss_line : List ℕ → List ℕ → List ℕ → ℕ → List ℕ
loss_line numbers losses amounts i =
    spaced (get_or numbers i 0 ∷ get_or losses i 0 ∷ get_or amounts (4 * i) 0 ∷ get_or amounts (4 * i + 1) 0 ∷ get_or amounts (4 * i + 2) 0 ∷ get_or amounts (4 * i + 3) 0 ∷ [])

-- of the first n rows
abbrev pub loss_lines : List ℕ → List ℕ → List ℕ → ℕ → List ℕ
loss_lines numbers losses amounts n = lines_of (loss_line numbers losses amounts) n

-- each account that has a loss and four amounts
abbrev pub listed : List ℕ → List ℕ → ℕ
listed losses amounts = accounts (min (length losses) (length amounts / 4))

abbrev pub total_word : List ℕ
total_word = 116 ∷ 111 ∷ 116 ∷ 97 ∷ 108 ∷ []

abbrev pub refused_word : List ℕ
refused_word = 114 ∷ 101 ∷ 102 ∷ 117 ∷ 115 ∷ 101 ∷ 100 ∷ []

-- `total N`, `refused N`
unfoldable pub word_line : List ℕ → ℕ → List ℕ
word_line word n = and_space word ++ spaced (n ∷ [])

-- `closeouts`: the closing line, then a line per account ..; then `total N`, or `refused N` alone in their place
unfoldable pub close_out_text : ℕ → ℕ → List ℕ → List ℕ → List ℕ → List ℕ
close_out_text zero total numbers losses amounts = loss_lines numbers losses amounts (listed losses amounts) ++ word_line total_word total
close_out_text (suc refusal) total numbers losses amounts = word_line refused_word (suc refusal)
