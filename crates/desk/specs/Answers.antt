-- "For every record, the answer names the refusal, and for an opening the number given."
use Rattle.std.specs.Prelude.{ℕ, eqb}
use Rattle.sums.specs.Choice.{pick}
use Rattle.dayfile.specs.declared.Record.{Record}
use Rattle.desk.specs.declared.Outcome.{Outcome}
use Rattle.desk.specs.declared.Outcome.TheVariants.{CarriedOut, Opened, Refused, End}
use Rattle.desk.specs.declared.Answer.{Answer}
use Rattle.rules.specs.declared.Change.{Change}
use Rattle.rules.specs.declared.Change.TheVariants.{Refuse, Put, Open}

-- document 01's numbers for each case: the refusal or 0
abbrev pub refusal_in : Outcome → ℕ
refusal_in CarriedOut = 0
refusal_in (Opened n) = 0
refusal_in (Refused n) = n
refusal_in End = 0

-- the number given or 0
abbrev pub given_in : Outcome → ℕ
given_in CarriedOut = 0
given_in (Opened n) = n
given_in (Refused n) = 0
given_in End = 0

-- "those of them with refusal 0": 1 for a record carried out
abbrev pub carried_in : Outcome → ℕ
carried_in CarriedOut = 1
carried_in (Opened n) = 1
carried_in (Refused n) = 0
carried_in End = 0

-- "With 1, 2 and the end, its serial, code and account are 0;"
abbrev pub nobody : Outcome → Answer
nobody o = record { serial = 0; code = 0; account = 0; outcome = o }

-- "with any other refusal they are the record's.", and so they are for a record carried out
abbrev pub of_record : Record → Outcome → Answer
of_record r o = record { serial = r.serial; code = r.code; account = r.account; outcome = o }

-- the answer to a record that makes this change to a book with this next number
abbrev pub answer_of : ℕ → Record → Change → Answer
answer_of next r (Refuse n) = pick (eqb n 1) (nobody (Refused n)) (of_record r (Refused n))
answer_of next r (Put row) = of_record r CarriedOut
answer_of next r (Open row) = of_record r (Opened next)
