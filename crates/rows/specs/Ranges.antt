-- Document 01, 'A sound book': the amounts of one row.
use Rattle.std.specs.Prelude.{Bool, ◌&&◌, eqb, leb}
use Rattle.rows.specs.declared.Kinds.{Kinds}
use Rattle.rows.specs.declared.Row.{Row}
use Rattle.rows.specs.Rows.{ceiling}

-- no amount of any kind
abbrev pub kinds_zero : Kinds → Bool
kinds_zero k = eqb k.cash 0 && eqb k.deposits 0 && eqb k.guarantees 0 && eqb k.securities 0

-- each kind of a at most that of b
abbrev pub kinds_within : Kinds → Kinds → Bool
kinds_within a b = leb a.cash b.cash && leb a.deposits b.deposits && leb a.guarantees b.guarantees && leb a.securities b.securities

-- the ceiling in each kind
abbrev pub ceilings : Kinds
ceilings = record { cash = ceiling; deposits = ceiling; guarantees = ceiling; securities = ceiling }

-- each kind at most the ceiling
abbrev pub kinds_capped : Kinds → Bool
kinds_capped k = kinds_within k ceilings

-- "amounts are all zero"
abbrev pub no_amounts : Row → Bool
no_amounts r = kinds_zero r.received && kinds_zero r.allocated && eqb r.pledged 0 && eqb r.margin 0

-- "Received (each kind), pledged and margin are at most the ceiling. Allocated is at most received in each kind."
abbrev pub in_range : Row → Bool
in_range r = kinds_capped r.received && kinds_within r.allocated r.received && leb r.pledged ceiling && leb r.margin ceiling
