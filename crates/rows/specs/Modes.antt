-- Document 02, K2: risk reduction mode, over a view of a book. "Figures as 004 Annexure 5, in tenths"
use Rattle.std.specs.Prelude.{Bool, true, false, not, ◌&&◌, ◌||◌, List, ℕ, ◌+◌, ◌-◌, ◌*◌, eqb, ltb, leb, get_or}
use Rattle.sums.specs.Sum.{sum}
use Rattle.sums.specs.Choice.{pick}
use Rattle.sums.specs.Listed.{list_to}
use Rattle.rows.specs.View.{View, is_tm, of_clients, members}

-- "a client's or CP's excess is ten margins less nine collaterals, or 0."
abbrev pub own_excess : View → ℕ → ℕ
own_excess v i = 10 * v.margin i - 9 * v.collateral i

-- "A TM's use is ten of its margins plus its clients' excess;"
unfoldable pub use_tm : View → ℕ → ℕ
use_tm v t = 10 * v.margin t + of_clients v t (own_excess v)

-- "its own excess is use less nine collaterals, or 0."
abbrev pub excess_tm : View → ℕ → ℕ
excess_tm v t = use_tm v t - 9 * v.collateral t

-- "The CM's use is ten margins plus the excess of TMs and CPs (CPs are house)."
unfoldable pub use_cm : View → ℕ
use_cm v = 10 * v.margin 0 + sum v.count (members v (excess_tm v) (own_excess v))

-- "only a live TM or the CM can be in the mode": the CM's place is 0. A row never given has the CM's sort, but no mode. A retired TM's
-- use is 0, so the look turns it off.
abbrev pub has_mode : View → ℕ → Bool
has_mode v i = eqb i 0 || is_tm v i

-- the use of an account that has a mode
unfoldable pub use_of : View → ℕ → ℕ
use_of v i = pick (eqb i 0) (use_cm v) (use_tm v i)

-- "By source document 000 (on at 90%, off below 85%): on when use isn't 0 and is at least nine collaterals;", 90% of ten
abbrev pub turns_on : ℕ → ℕ → Bool
turns_on used collateral = not (eqb used 0) && leb (9 * collateral) used

-- "off when use is 0 or twice the use is under seventeen collaterals;", 85% of twenty
abbrev pub turns_off : ℕ → ℕ → Bool
turns_off used collateral = eqb used 0 || ltb (2 * used) (17 * collateral)

-- "otherwise as before."
unfoldable pub mode_after : ℕ → ℕ → Bool → Bool
mode_after used collateral before = pick (turns_on used collateral) true (pick (turns_off used collateral) false before)

-- account i's mode after a look, by all modes before; off for any account that has none
abbrev pub look_at : View → List Bool → ℕ → Bool
look_at v modes i = has_mode v i && mode_after (use_of v i) (v.collateral i) (get_or modes i false)

-- all modes after every TM and the CM are looked at
unfoldable pub looked : View → List Bool → List Bool
looked v modes = list_to (look_at v modes) 256
