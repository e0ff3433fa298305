-- Only for internal functions: no promise of a public call cites it.
use Rattle.std.specs.Prelude.{ℕ, eqb}
use Rattle.sums.specs.Choice.{pick}
use Rattle.desk.specs.declared.Outcome.{Outcome}
use Rattle.desk.specs.declared.Outcome.TheVariants.{CarriedOut, Opened, Refused}

-- a record's outcome by the refusal or 0 and the number given or 0
abbrev pub outcome_by : ℕ → ℕ → Outcome
outcome_by refusal given = pick (eqb refusal 0) (pick (eqb given 0) CarriedOut (Opened given)) (Refused refusal)
