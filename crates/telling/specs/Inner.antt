-- Only for internal functions: no promise of a public call cites it.
use Rattle.std.specs.Prelude.{Bool, ◌&&◌, List, [], ◌∷◌, ◌++◌, ℕ}
use Rattle.rows.specs.declared.Book.{Book}
use Rattle.dayfile.specs.declared.Record.{Record}
use Rattle.codes.specs.declared.asked.Head.{Head}
use Rattle.records.specs.declared.Closing.{Closing}
use Rattle.records.specs.declared.Closing.TheVariants.{End, Cut, Long, Unsound}
use Rattle.steps.specs.declared.Gone.{Gone}
use Rattle.passing.specs.Most.{most_of}
use Rattle.text.specs.Numbers.{spaced}
use Rattle.telling.specs.Explained.{is_explained, two_more}

-- a record of which the head alone is known
abbrev pub head_only : Head → Record
head_only h = record {
  serial = h.serial;
  code = h.code;
  named = h.named;
  account = h.account;
  kinds = record { cash = 0; deposits = 0; guarantees = 0; securities = 0 };
  pledged = 0;
  margin = 0;
}

-- the line of a record with this head that came to x, by the book after it
abbrev pub line_by : Bool → Book → Head → Gone → List ℕ
line_by explained b h x =
    spaced ((h.serial ∷ h.code ∷ h.account ∷ x.refusal ∷ x.given ∷ []) ++ two_more (explained && is_explained x.refusal h.named) (most_of b (head_only h)))

-- how many records the loop was held to: where it stopped before the stated number, since the room was full, as many as it read
abbrev pub held_to : Closing → ℕ → ℕ → ℕ
held_to End read most = most
held_to Cut read most = most
held_to Long read most = read
held_to Unsound read most = most
