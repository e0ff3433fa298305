-- What `margins` prints on standard output, and what it tells on standard error of what it read (docs/API.md).
use Rattle.std.specs.Prelude.{Bool, List, [], ◌∷◌, ◌++◌, ℕ, pos, Option, None, Some}
use Rattle.std.specs.Option.{unwrap_or}
use Rattle.sums.specs.Choice.{pick, unless_refused}
use Rattle.text.specs.Numbers.{space, newline, followed, spaced}
use Rattle.dayfile.specs.declared.Record.{Record}
use Rattle.dayfile.specs.Records.{fault_of}
use Rattle.dayfile.specs.Written.{written_of}
use Rattle.currency.specs.declared.Made.{Made}
use Rattle.currency.specs.declared.Made.TheVariants.{Given, Refused}
use Rattle.currency.specs.Margins.{number_made, margin_made}
use Rattle.exposure.specs.Joined.{joined_of}
use Rattle.margins.specs.declared.asked.Asked.{Asked}
use Rattle.margins.specs.declared.figures.Figures.{Figures}
use Rattle.margins.specs.declared.positions.Held.{Held}

-- "It prints the refusal or 0 and the margin, `0 50001`"
unfoldable pub line_made : Made → List ℕ
line_made made = spaced (number_made made ∷ margin_made made ∷ [])

-- a record's bytes; none where the day file's writer refuses it
unfoldable pub record_written : Record → List ℕ
record_written r = unless_refused (fault_of r) (written_of r) (λ n. [])

-- "with `--record` the record's bytes in their place, and at a refusal nothing"
unfoldable pub record_made : Made → List ℕ
record_made (Given r) = record_written r
record_made (Refused n) = []

-- the refusal for which nothing is printed then, or 0
unfoldable pub refusal_made : Made → ℕ
refusal_made (Given r) = fault_of r
refusal_made (Refused n) = n

-- "but `margins: refused 18` on standard error"
abbrev pub refused_words : List ℕ
refused_words = 109 ∷ 97 ∷ 114 ∷ 103 ∷ 105 ∷ 110 ∷ 115 ∷ 58 ∷ 32 ∷ 114 ∷ 101 ∷ 102 ∷ 117 ∷ 115 ∷ 101 ∷ 100 ∷ 32 ∷ []

unfoldable pub refused_text : ℕ → List ℕ
refused_text n = refused_words ++ followed n newline

-- `margins: line 3 is no position`
abbrev pub line_words : List ℕ
line_words = 109 ∷ 97 ∷ 114 ∷ 103 ∷ 105 ∷ 110 ∷ 115 ∷ 58 ∷ 32 ∷ 108 ∷ 105 ∷ 110 ∷ 101 ∷ 32 ∷ []

abbrev pub no_position_words : List ℕ
no_position_words = 105 ∷ 115 ∷ 32 ∷ 110 ∷ 111 ∷ 32 ∷ 112 ∷ 111 ∷ 115 ∷ 105 ∷ 116 ∷ 105 ∷ 111 ∷ 110 ∷ 10 ∷ []

unfoldable pub bad_text : ℕ → List ℕ
bad_text line = line_words ++ (followed line space ++ no_position_words)

-- what is told of what was made: nothing without `--record`
unfoldable pub told_made : Bool → Made → List ℕ
told_made as_record made = pick as_record (unless_refused (refusal_made made) [] refused_text) []

-- 0 where no line tells figures
abbrev pub zero_figures : Figures
zero_figures = record { premium = pos 0; loss = pos 0; exercise = pos 0; settlement = pos 0 }

-- the call that is made
abbrev pub made_with : Asked → Held → Figures → Made
made_with a h f = joined_of a.serial a.account a.initial h.positions h.number f.premium f.loss f.exercise f.settlement

abbrev pub made_for : Asked → Held → Made
made_for a h = made_with a h (unwrap_or h.figures zero_figures)

-- what a bad line comes to, where there is one
abbrev pub unless_bad : Option ℕ → List ℕ → (ℕ → List ℕ) → List ℕ
unless_bad None good bad = good
unless_bad (Some line) good bad = bad line

-- standard output; "lines of another form .. are told on standard error, and nothing is printed"
unfoldable pub printed_for : Asked → Held → List ℕ
printed_for a h = unless_bad h.bad (pick a.«record» (record_made (made_for a h)) (line_made (made_for a h))) (λ line. [])

-- standard error
unfoldable pub told_for : Asked → Held → List ℕ
told_for a h = unless_bad h.bad (told_made a.«record» (made_for a h)) bad_text
