-- Only for internal functions: no promise of a public call cites it.
use Rattle.std.specs.Prelude.{◌&&◌, not, ℕ, ◌+◌, ◌≤◌, eqb, ltb}
use Rattle.sums.specs.Choice.{pick}
use Rattle.rows.specs.Rows.{ceiling}
use Rattle.dayfile.specs.declared.Record.{Record}
use Rattle.currency.specs.declared.Made.{Made}
use Rattle.currency.specs.declared.Made.TheVariants.{Given, Refused}

-- what is made has a margin up to the ceiling
abbrev pub Bounded : Made → Type 0
Bounded (Given r) = r.margin ≤ ceiling
Bounded (Refused n) = Unit

-- a record with another margin
abbrev pub with_margin : Record → ℕ → Record
with_margin r m =
    record { serial = r.serial; code = r.code; named = r.named; account = r.account; kinds = r.kinds; pledged = r.pledged; margin = m }

-- what K9 made, joined with an exposure's refusal or 0 and its amount
abbrev pub with_exposure : Made → ℕ → ℕ → Made
with_exposure (Given r) refusal amount =
    pick (not (eqb refusal 0)) (Refused refusal) (pick (ltb ceiling (r.margin + amount)) (Refused 21) (Given (with_margin r (r.margin + amount))))
with_exposure (Refused n) refusal amount = pick (eqb n 21 && not (eqb refusal 0)) (Refused refusal) (Refused n)
