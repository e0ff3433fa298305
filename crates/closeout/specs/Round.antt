-- One round of K1 (document 02): of account i's loss, part i is to be paid in this round. A view's collateral is here what the account
-- has for this round alone: a client or CP has nothing, having paid already. It is no book's view: its needs mean nothing.
use Rattle.std.specs.Prelude.{ℕ, ◌-◌, min}
use Rattle.sums.specs.Sum.{sum, only}
use Rattle.rows.specs.View.{View, is_client, is_client_of}

-- "owner first": the owner's part, before any other's
abbrev pub own : View → (ℕ → ℕ) → ℕ → ℕ
own v part i = min (part i) (v.collateral i)

-- what own collateral couldn't pay
abbrev pub short : View → (ℕ → ℕ) → ℕ → ℕ
short v part i = part i - own v part i

-- "owner first, then rising number": what is left of TM t's collateral for account i, after t's own part and its clients below i
abbrev pub left_tm : View → (ℕ → ℕ) → ℕ → ℕ → ℕ
left_tm v part t i = v.collateral t - own v part t - sum i (λ j. only (is_client_of v t j) (short v part j))

-- from the TM's: of a client alone
unfoldable pub from_tm : View → (ℕ → ℕ) → ℕ → ℕ
from_tm v part i = only (is_client v i) (min (short v part i) (left_tm v part (v.tm i) i))

-- "from the TM's and then the CM's": what neither own collateral nor the TM's could pay in this round
unfoldable pub asked_of_cm : View → (ℕ → ℕ) → ℕ → ℕ
asked_of_cm v part i = short v part i - from_tm v part i

-- "owner first, then rising number": what is left of the CM's collateral for account i, after the CM's own part and the accounts below i.
-- Account 0 is among them: it asks for something only where its own part has used its collateral up, and then nothing is left.
abbrev pub left_cm : View → (ℕ → ℕ) → ℕ → ℕ
left_cm v part i = v.collateral 0 - own v part 0 - sum i (asked_of_cm v part)

-- from the CM's: of the CM itself nothing, since either its own collateral paid its part, or nothing of it is left
unfoldable pub from_cm : View → (ℕ → ℕ) → ℕ → ℕ
from_cm v part i = min (asked_of_cm v part i) (left_cm v part i)

-- what this round leaves unpaid
unfoldable pub unpaid : View → (ℕ → ℕ) → ℕ → ℕ
unpaid v part i = asked_of_cm v part i - left_cm v part i
