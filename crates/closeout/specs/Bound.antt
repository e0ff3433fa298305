-- What the theorems on the close-out speak of: no promise of a public call cites it.
use Rattle.std.specs.Prelude.{List, ℕ, ◌+◌, ◌-◌, ◌*◌, get_or}
use Rattle.rows.specs.declared.Book.{Book}
use Rattle.rows.specs.View.{View}
use Rattle.closeout.specs.Closing.{room_of}

-- "its own loss beyond its own margin" (K1: "each account's uncovered part is at most" that); "The bound is 600 + 300 = 900."
abbrev pub beyond : View → (ℕ → ℕ) → ℕ → ℕ
beyond v l i = l i - v.margin i

-- "four amounts an account": account i's amount number k in the room after a close-out
abbrev pub cell_of : Book → List ℕ → List ℕ → ℕ → ℕ → ℕ
cell_of b losses room i k = get_or (room_of b losses room) (4 * i + k) 0
