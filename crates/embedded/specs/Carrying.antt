-- include/loft.h: a record carried out on a book's bytes.
use Rattle.std.specs.Prelude.{Bool, ◌&&◌, List, ℕ, eqb, length}
use Rattle.sums.specs.Choice.{unless_refused}
use Rattle.dayfile.specs.declared.Record.{Record}
use Rattle.desk.specs.Answers.{refusal_in}
use Rattle.desk.specs.Steps.{step_of}
use Rattle.records.specs.LineNumbers.{numbers_of_line}
use Rattle.lent.specs.Held.{book_of, bytes_of, lent_refusal}

-- "`amounts` are LOFT_AMOUNTS"; "`answer` is LOFT_ANSWER numbers"
abbrev pub are_fit : List ℕ → List ℕ → Bool
are_fit amounts answer = eqb (length amounts) 6 && eqb (length answer) 5

-- by a record, and whether the lists are as long as they should be
module _ (bytes : List ℕ) (fit : Bool) (r : Record) where
  -- "Refuses 1, 15, 3 to 14, 17."
  unfoldable pub carried_refusal : ℕ
  carried_refusal = unless_refused (lent_refusal bytes fit) (refusal_in (step_of (book_of bytes) r).answer.outcome) (λ n. n)

  -- "With 1 and with 15 nothing that is lent changes."; "with all of these but 3 the book's next serial moves on"
  unfoldable pub carried_book : List ℕ
  carried_book = unless_refused (lent_refusal bytes fit) (bytes_of (step_of (book_of bytes) r).book) (λ n. bytes)

  -- "LOFT_ANSWER numbers: serial, code, account, refusal, number given"; "With 3 to 14 and 17 the answer is told too"
  unfoldable pub carried_answer : List ℕ → List ℕ
  carried_answer answer = unless_refused (lent_refusal bytes fit) (numbers_of_line (step_of (book_of bytes) r).answer) (λ n. answer)
