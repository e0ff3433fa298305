-- Document 02, K3: "The margin desk also wants all needs in one list (refusals 1; 15, room not one for each account)."
use Rattle.std.specs.Prelude.{not, List, [], ◌∷◌, ℕ, eqb, length}
use Rattle.sums.specs.Choice.{unless_refused}
use Rattle.sums.specs.Listed.{list_to}
use Rattle.sums.specs.Table.{Line, ◌when◌, first}
use Rattle.rows.specs.declared.Book.{Book}
use Rattle.rows.specs.View.{need}
use Rattle.rows.specs.Rows.{view}
use Rattle.book.specs.Sound.{sound_b}

-- "refusals 1; 15, room not one for each account": a longer one is refused too
abbrev pub needs_refusals : Book → List ℕ → List Line
needs_refusals b room = (1 when not (sound_b b)) ∷ (15 when not (eqb (length room) b.count)) ∷ []

-- the first that applies, or 0
unfoldable pub needs_refusal : Book → List ℕ → ℕ
needs_refusal b room = first (needs_refusals b room)

-- "all needs in one list": every account's, in rising number; a client's and a CP's is its margin, and in a sound book a
-- retired account's is 0, as its amounts are and those of a TM's clients
unfoldable pub all_needs : Book → List ℕ
all_needs b = list_to (need (view b)) b.count

-- the room after the call: with a refusal nothing is written
unfoldable pub needs_room : Book → List ℕ → List ℕ
needs_room b room = unless_refused (needs_refusal b room) (all_needs b) (λ n. room)
