-- Document 01, 'Standing and blocking': need, blocked, deemed and free, over a view of a book.
use Rattle.std.specs.Prelude.{Bool, ◌&&◌, ℕ, ◌+◌, ◌-◌, min, eqb}
use Rattle.sums.specs.Sum.{sum, only}
use Rattle.sums.specs.Choice.{pick}

-- What needs and the close-out see of a book: how many accounts, and each one's sort, TM, collateral and margin, by the place of its row. A
-- TM is told by its place.
pub record View : Type 0 where
  pub count : ℕ
  pub sort : ℕ → ℕ
  pub tm : ℕ → ℕ
  pub collateral : ℕ → ℕ
  pub margin : ℕ → ℕ

-- "Accounts are the CM's own, trading members' own (TM), clients under a TM, and custodial participants (CP)": by sort.
abbrev pub is_cm : View → ℕ → Bool
is_cm v i = eqb (v.sort i) 0

abbrev pub is_tm : View → ℕ → Bool
is_tm v i = eqb (v.sort i) 1

abbrev pub is_client : View → ℕ → Bool
is_client v i = eqb (v.sort i) 2

abbrev pub is_cp : View → ℕ → Bool
is_cp v i = eqb (v.sort i) 3

-- account i is a client of account t
abbrev pub is_client_of : View → ℕ → ℕ → Bool
is_client_of v t i = is_client v i && eqb (v.tm i) t

-- "Blocked is the lesser of need and collateral.": of a need n and collateral c
abbrev pub blocked_of : ℕ → ℕ → ℕ
blocked_of n c = min n c

-- "Deemed is need less blocked."
abbrev pub deemed_of : ℕ → ℕ → ℕ
deemed_of n c = n - blocked_of n c

-- "Free is collateral less blocked."
abbrev pub free_of : ℕ → ℕ → ℕ
free_of n c = c - blocked_of n c

-- what a client or CP is deemed, whose need is its margin
abbrev pub own_deemed : View → ℕ → ℕ
own_deemed v i = deemed_of (v.margin i) (v.collateral i)

-- f added up over the clients of t
abbrev pub of_clients : View → ℕ → (ℕ → ℕ) → ℕ
of_clients v t f = sum v.count (λ i. only (is_client_of v t i) (f i))

-- "for a TM, its margin plus what each client of it is deemed;"
unfoldable pub need_tm : View → ℕ → ℕ
need_tm v t = v.margin t + of_clients v t (own_deemed v)

-- what a TM is deemed
abbrev pub deemed_tm : View → ℕ → ℕ
deemed_tm v t = deemed_of (need_tm v t) (v.collateral t)

-- f of each TM, g of each CP, and 0 of any other account
abbrev pub members : View → (ℕ → ℕ) → (ℕ → ℕ) → ℕ → ℕ
members v f g i = only (is_tm v i) (f i) + only (is_cp v i) (g i)

-- "for the CM, its margin plus what each TM and each CP is deemed."
unfoldable pub need_cm : View → ℕ
need_cm v = v.margin 0 + sum v.count (members v (deemed_tm v) (own_deemed v))

-- an account's need, by its sort: the CM, a TM, and otherwise "for a client or CP, its margin". Behind refusal 1 only account 0 has the CM's sort.
unfoldable pub need : View → ℕ → ℕ
need v i = pick (is_cm v i) (need_cm v) (pick (is_tm v i) (need_tm v i) (v.margin i))

-- what of account i is blocked, deemed and free
abbrev pub blocked : View → ℕ → ℕ
blocked v i = blocked_of (need v i) (v.collateral i)

abbrev pub deemed : View → ℕ → ℕ
deemed v i = deemed_of (need v i) (v.collateral i)

abbrev pub free : View → ℕ → ℕ
free v i = free_of (need v i) (v.collateral i)
