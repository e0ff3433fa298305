-- Only for internal functions and proofs: what is deemed directly under each account, and the needs that are kept by it (K3), over any view. Under the CM it is what each TM and
-- each CP is deemed, under a TM what each client of it is, under a client or CP nothing.
use Rattle.std.specs.Prelude.{◌≡◌, ◌&&◌, List, ℕ, ◌+◌, ◌-◌, ◌≤◌, ◌<◌, eqb, ltb, leb, length, get_or}
use Rattle.sums.specs.Sum.{only}
use Rattle.sums.specs.Choice.{pick}
use Rattle.sums.specs.Listed.{list_to}
use Rattle.rows.specs.declared.Account.{Account}
use Rattle.rows.specs.View.{View, deemed_of, need}

-- a list of it, a place for each row: an account's need is its margin and what is under it
pub record DeemedUnder (v : View) (under : List ℕ) : Type 0 where
  pub size : length under ≡ 256
  pub each : (i : ℕ) → i < v.count → need v i ≡ v.margin i + get_or under i 0
  pub beyond : (i : ℕ) → v.count ≤ i → get_or under i 0 ≡ 0

-- the list by kept needs (K3): a need less the margin; for a client or CP none is kept, and 0 is left
abbrev pub deemed_under_by : (ℕ → ℕ) → List ℕ → List ℕ
deemed_under_by margin needs = list_to (λ i. get_or needs i 0 - margin i) 256

-- the account at place i
abbrev pub account_at : View → ℕ → Account
account_at v i = record { sort = v.sort i; tm = v.tm i; margin = v.margin i; collateral = v.collateral i }

-- the account with another margin
abbrev pub at_margin : Account → ℕ → Account
at_margin a margin = record { sort = a.sort; tm = a.tm; margin = margin; collateral = a.collateral }

-- the need that is kept at a TM's place (K3), where so much is under it; 0 for any other account, the CM too, whose need is put by its place
abbrev pub need_to_keep : Account → ℕ → ℕ
need_to_keep a under = only (eqb a.sort 1) (a.margin + under)

-- an account's need by the one kept at its place: a client's and a CP's is its margin
abbrev pub need_by : Account → ℕ → ℕ
need_by a kept = pick (leb a.sort 1) kept a.margin

-- what an account adds under the one that it names as its TM
abbrev pub client_due : Account → ℕ
client_due a = only (eqb a.sort 2 && ltb a.tm 256) (deemed_of a.margin a.collateral)

-- what an account with so much under it adds under the CM
abbrev pub member_due : Account → ℕ → ℕ
member_due a under = only (eqb a.sort 1) (deemed_of (a.margin + under) a.collateral) + only (eqb a.sort 3) (deemed_of a.margin a.collateral)

-- what is under its TM after the account changed from old to new
abbrev pub deemed_under_tm : Account → Account → ℕ → ℕ
deemed_under_tm old new clients = clients + client_due new - client_due old

-- what is under the CM after that: by the account, with so much under it, and by the one that it names as its TM
abbrev pub deemed_under_cm : Account → Account → ℕ → Account → ℕ → ℕ → ℕ
deemed_under_cm old new under tm clients all =
    all + (member_due tm (deemed_under_tm old new clients) + member_due new under) - (member_due tm clients + member_due old under)
