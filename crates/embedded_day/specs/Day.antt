-- include/loft.h: the records of a piece carried out on a book's bytes.
use Rattle.std.specs.Prelude.{Bool, List, [], ◌∷◌, ℕ, eqb, length}
use Rattle.sums.specs.Choice.{unless_refused}
use Rattle.records.specs.declared.Closing.{Closing}
use Rattle.records.specs.declared.Closing.TheVariants.{End, Cut, Long, Unsound}
use Rattle.records.specs.Runs.{Ran, ran_of}
use Rattle.records.specs.LineNumbers.{room_for, numbers_room}
use Rattle.lent.specs.Held.{book_of, bytes_of, lent_refusal}

-- "LOFT_END 0", "LOFT_CUT 1", "LOFT_LONG 2"; an unsound book is refused, and nothing is told
abbrev pub word_number : Closing → ℕ
word_number End = 0
word_number Cut = 1
word_number Long = 2
word_number Unsound = 3

-- "`told` is LOFT_TOLD numbers"
abbrev pub are_four : List ℕ → Bool
are_four told = eqb (length told) 4

-- "LOFT_END, LOFT_CUT or LOFT_LONG, the place reached, how many records were read, how many were carried out"
abbrev pub told_of : Ran → List ℕ
told_of r = word_number r.closing ∷ r.place ∷ r.read ∷ r.done ∷ []

module _ (bytes piece : List ℕ) (most : ℕ) (answers told : List ℕ) where
  -- "Refuses 1, 15. A refused record is told in its answer and is no refusal of the call."
  unfoldable pub day_refusal : ℕ
  day_refusal = lent_refusal bytes (are_four told)

  -- "from its start, at most `most` of them and as many as `answers` has room for"
  abbrev pub ran_in : Ran
  ran_in = ran_of (book_of bytes) piece (room_for most answers)

  unfoldable pub day_book : List ℕ
  day_book = unless_refused day_refusal (bytes_of ran_in.book) (λ n. bytes)

  -- "LOFT_ANSWER numbers each"
  unfoldable pub day_answers : List ℕ
  day_answers = unless_refused day_refusal (numbers_room (book_of bytes) piece most answers) (λ n. answers)

  unfoldable pub day_told : List ℕ
  day_told = unless_refused day_refusal (told_of ran_in) (λ n. told)
