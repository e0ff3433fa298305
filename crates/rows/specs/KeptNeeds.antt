-- Document 02, K3: needs kept beside the rows; and the book after a record carried out, with its modes looked at (K2) and its needs brought up to date.
use Rattle.std.specs.Prelude.{Bool, List, ℕ, eqb, get_or}
use Rattle.sums.specs.Sum.{only, all}
use Rattle.sums.specs.Choice.{pick}
use Rattle.sums.specs.Listed.{list_to}
use Rattle.rows.specs.declared.Book.{Book}
use Rattle.rows.specs.View.{View, is_tm, need_tm, need_cm}
use Rattle.rows.specs.Rows.{view, with_modes, with_needs}
use Rattle.rows.specs.Modes.{looked}

-- "Keep every TM's and the CM's need beside the rows": the CM's at place 0, a TM's at its own, and 0 at any other
abbrev pub kept_need : View → ℕ → ℕ
kept_need v i = pick (eqb i 0) (need_cm v) (only (is_tm v i) (need_tm v i))

-- "the need worked out afresh", at every place
unfoldable pub needs_afresh : View → List ℕ
needs_afresh v = list_to (kept_need v) 256

-- "each kept need equals the need worked out afresh"
unfoldable pub all_kept : View → List ℕ → Bool
all_kept v needs = all 256 (λ i. eqb (get_or needs i 0) (kept_need v i))

-- K2: "It is looked at after every record carried out."; K3: "bring it up to date from the one row that changed", which comes to the needs
-- worked out afresh
abbrev pub settled : Book → Book
settled b = with_needs (with_modes b (looked (view b) b.modes)) (needs_afresh (view b))
