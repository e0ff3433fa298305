-- Document 02, K10: "Prove that a client's figure, or its 22, doesn't change with any other client's."
use Rattle.std.specs.Prelude.{List, ◌≡◌, ℕ, ◌+◌, ◌*◌, ◌/◌, ◌%◌, ◌<◌, ◌&&◌, eqb, ℤ, pos, length, get_or}
use Rattle.sums.specs.Choice.{pick}
use Rattle.sums.specs.Listed.{list_to}
use Rattle.exposure.specs.declared.Exposure.{Exposure}
use Rattle.exposure.specs.declared.lists.Form.{Form}
use Rattle.exposure.specs.declared.lists.Form.TheVariants.{Intraday, EndOfDay}
use Rattle.exposure.specs.Exposures.{exposure_of, intraday_of}

-- how many figures a client has
abbrev pub width_of : Form → ℕ
width_of Intraday = 2
width_of EndOfDay = 4

-- where those of client i stand
abbrev pub figures_from : Form → ℕ → ℕ
figures_from Intraday i = 2 * i
figures_from EndOfDay i = 4 * i

-- of how many clients n figures are
abbrev pub clients_in : Form → ℕ → ℕ
clients_in Intraday n = n / 2
clients_in EndOfDay n = n / 4

-- the figure at a place
abbrev pub figure_at : List ℤ → ℕ → ℤ
figure_at figures i = get_or figures i (pos 0)

-- "any other client's": two lists agree on client i where they have the same figures of it, whatever the others' are
pub record Agree (form : Form) (i : ℕ) (l m : List ℤ) : Type 0 where
  pub same : (k : ℕ) → k < width_of form → figure_at l (figures_from form i + k) ≡ figure_at m (figures_from form i + k)

-- client i's answer, by its own figures: premium, loss, exercise, final settlement
unfoldable pub client_of : Form → List ℤ → ℕ → Exposure
client_of Intraday figures i = intraday_of (figure_at figures (2 * i)) (figure_at figures (2 * i + 1))
client_of EndOfDay figures i =
    exposure_of (figure_at figures (4 * i)) (figure_at figures (4 * i + 1)) (figure_at figures (4 * i + 2)) (figure_at figures (4 * i + 3))

-- "15": the figures are not so many for each client, or the room is not two for each
unfoldable pub list_refusal : Form → List ℤ → List ℕ → ℕ
list_refusal form figures room =
    pick (eqb (figures_from form (clients_in form (length figures))) (length figures) && eqb (length room) (2 * clients_in form (length figures))) 0 15

-- two numbers a client: refusal and amount
abbrev pub number_in_room : Form → List ℤ → ℕ → ℕ
number_in_room form figures k =
    pick (eqb (k % 2) 0) (client_of form figures (k / 2)).refusal (client_of form figures (k / 2)).amount

-- the room after the call; with 15 it is as it was
unfoldable pub list_room : Form → List ℤ → List ℕ → List ℕ
list_room form figures room =
    pick (eqb (list_refusal form figures room) 0) (list_to (number_in_room form figures) (2 * clients_in form (length figures))) room
