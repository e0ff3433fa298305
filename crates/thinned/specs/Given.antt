-- Document 02, K11: "Numbers .. go up to 65,535 and are never given twice", over any records and archivings.
use Rattle.std.specs.Prelude.{List, [], ◌∷◌, ◌++◌, ℕ, ◌+◌, ◌≤◌, eqb}
use Rattle.sums.specs.Choice.{pick}
use Rattle.rows.specs.declared.Book.{Book}
use Rattle.gaps.specs.Gaps.{archived}
use Rattle.dayfile.specs.declared.Record.{Record}
use Rattle.rules.specs.Numbered.{given_of, record_after}

-- what may happen to a book
pub data Event : Type 0 where
  carry : Record → Event
  archive : Event

-- the numbers given, one after the other; 0 is none
abbrev pub numbers_given : Book → List Event → List ℕ
numbers_given b [] = []
numbers_given b (carry r ∷ es) = pick (eqb (given_of b r) 0) [] (given_of b r ∷ []) ++ numbers_given (record_after b r) es
numbers_given b (archive ∷ es) = numbers_given (archived b) es

-- "never given twice": each is above the one before it, all from k on; "go up to 65,535"
abbrev pub RisingFrom : ℕ → List ℕ → Type 0
RisingFrom k [] = Unit
RisingFrom k (x ∷ xs) = (k ≤ x) × (x ≤ 65535) × RisingFrom (x + 1) xs
