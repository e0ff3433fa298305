-- Every sequence of records: the book after the records of a list, each handed over as values.
use Rattle.std.specs.Prelude.{true, List, [], ◌∷◌, ◌≡◌, ℕ, ◌≤◌}
use Rattle.rows.specs.declared.Row.{Row}
use Rattle.rows.specs.declared.Book.{Book}
use Rattle.rows.specs.Rows.{mode_at}
use Rattle.rows.specs.Facts.{KindsWithin}
use Rattle.dayfile.specs.declared.Record.{Record}
use Rattle.desk.specs.Steps.{step_of}

unfoldable pub after_all : Book → List Record → Book
after_all b [] = b
after_all b (r ∷ rs) = after_all (step_of b r).book rs

-- each record's code is one of those that p says
unfoldable pub EachCode : (ℕ → Type 0) → List Record → Type 0
EachCode p [] = Unit
EachCode p (r ∷ rs) = p r.code × EachCode p rs

-- K5, "whose mode is on": account i's is on before each of the records; after the last it may be off
unfoldable pub OnBeforeEach : Book → ℕ → List Record → Type 0
OnBeforeEach b i [] = Unit
OnBeforeEach b i (r ∷ rs) = (mode_at b i ≡ true) × OnBeforeEach (step_of b r).book i rs

-- nothing is taken out of an account's collateral: each kind allocated, and what is pledged, is after at least what it was before
abbrev pub NothingTakenOut : Row → Row → Type 0
NothingTakenOut before after = KindsWithin before.allocated after.allocated × (before.pledged ≤ after.pledged)
