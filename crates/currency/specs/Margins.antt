-- Document 02, K9: "It adds up to 64 positions of a client to the initial margin the risk desk hands over, and makes the code 10 record."
use Rattle.std.specs.Prelude.{List, [], ◌∷◌, ℕ, ◌+◌, ltb, take}
use Rattle.sums.specs.Choice.{pick, unless_refused}
use Rattle.sums.specs.Table.{Line, ◌when◌, first}
use Rattle.rows.specs.Rows.{ceiling, no_kinds}
use Rattle.dayfile.specs.declared.Record.{Record}
use Rattle.currency.specs.declared.Position.{Position}
use Rattle.currency.specs.declared.Made.{Made}
use Rattle.currency.specs.declared.Made.TheVariants.{Given, Refused}
use Rattle.currency.specs.Charges.{first_fault, charges}

-- the initial margin and the charges
unfoldable pub sum_of : ℕ → List Position → ℕ
sum_of initial positions = initial + charges positions

-- "20 .. initial margin past the ceiling, 21 sum past the ceiling": "the initial margin after them"
abbrev pub last_refusals : ℕ → List Position → List Line
last_refusals initial positions =
    (20 when ltb ceiling initial)
    ∷ (21 when ltb ceiling (sum_of initial positions))
    ∷ []

-- "15 over 64 positions", then "18 to 20 by first position at fault", then the last two
unfoldable pub refusal_of : ℕ → List Position → ℕ → ℕ
refusal_of initial positions number =
    pick (ltb 64 number) 15
    (unless_refused (first_fault (take number positions)) (first (last_refusals initial (take number positions))) (λ n. n))

-- "the code 10 record": bit 5 alone
abbrev pub margin_record : ℕ → ℕ → ℕ → Record
margin_record serial account margin =
    record { serial = serial; code = 10; named = 32; account = account; kinds = no_kinds; pledged = 0; margin = margin }

-- "Refusals (no record then)"
unfoldable pub made_of : ℕ → ℕ → ℕ → List Position → ℕ → Made
made_of serial account initial positions number =
    unless_refused (refusal_of initial positions number) (Given (margin_record serial account (sum_of initial (take number positions)))) Refused

-- document 02's number of what was made
abbrev pub number_made : Made → ℕ
number_made (Given r) = 0
number_made (Refused n) = n

-- and its margin, 0 with a refusal
abbrev pub margin_made : Made → ℕ
margin_made (Given r) = r.margin
margin_made (Refused n) = 0
