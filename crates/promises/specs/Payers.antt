-- Demand 3 speaks of payers ("a client or CP pays .."); a close-out's four amounts are told by whose loss it is. Here the same amounts are told by whose
-- collateral they come out of.
use Rattle.std.specs.Prelude.{ℕ, ◌+◌, eqb}
use Rattle.sums.specs.Sum.{sum, only}
use Rattle.rows.specs.View.{View, is_client_of}

-- What account i's loss takes out of account p's collateral: "from own collateral", where p is i; "from the TM's", where i is a client of p; "from the CM's",
-- where p is 0, the CM. `amount i k` is account i's amount number k of the four, as in the room after a close-out (`cell_of`). In a sound book p is two of these
-- only where the CM pays for itself, and its third amount is 0.
unfoldable pub taken_out : View → (ℕ → ℕ → ℕ) → ℕ → ℕ → ℕ
taken_out v amount p i = only (eqb p i) (amount i 0) + only (is_client_of v p i) (amount i 1) + only (eqb p 0) (amount i 2)

-- what account p pays in all: taken out of its collateral by every account's loss
abbrev pub pays_in_all : View → (ℕ → ℕ → ℕ) → ℕ → ℕ
pays_in_all v amount p = sum v.count (taken_out v amount p)
