-- Document 01, 'The program': the lines that it prints, byte by byte.
use Rattle.std.specs.Prelude.{List, [], ◌∷◌, ◌++◌, ℕ}
use Rattle.desk.specs.declared.Answer.{Answer}
use Rattle.records.specs.declared.Closing.{Closing}
use Rattle.records.specs.declared.Closing.TheVariants.{End, Cut, Long, Unsound}
use Rattle.records.specs.LineNumbers.{numbers_of_line}
use Rattle.text.specs.Numbers.{space, spaced}

-- "a line per record, single spaces between: serial, code, account named, refusal or 0, number given or 0"
unfoldable pub line_of : Answer → List ℕ
line_of a = spaced (numbers_of_line a)

-- the lines of all records, one after the other
unfoldable pub lines_of : List Answer → List ℕ
lines_of [] = []
lines_of (a ∷ rest) = line_of a ++ lines_of rest

-- "and says which: `end`, `cut` or `long`"; "An unsound book gives 1 as the closing word"
abbrev pub word_of : Closing → List ℕ
word_of End = 101 ∷ 110 ∷ 100 ∷ []  -- e n d
word_of Cut = 99 ∷ 117 ∷ 116 ∷ []  -- c u t
word_of Long = 108 ∷ 111 ∷ 110 ∷ 103 ∷ []  -- l o n g
word_of Unsound = 49 ∷ []  -- 1

-- "`end`, `cut` or `long`, then records read .. and records carried out"
unfoldable pub closing_line_of : Closing → ℕ → ℕ → List ℕ
closing_line_of word read done = (word_of word ++ (space ∷ [])) ++ spaced (read ∷ done ∷ [])
