-- One kind among four. Only for internal functions.
use Rattle.std.specs.Prelude.{ℕ}
use Rattle.rows.specs.declared.Kinds.{Kinds}
use Rattle.codes.specs.declared.one_kind.Kind.{Kind}
use Rattle.codes.specs.declared.one_kind.Kind.TheVariants.{Cash, Deposits, Guarantees, Securities}

-- its number among the amounts received
abbrev pub number_of : Kind → ℕ
number_of Cash = 0
number_of Deposits = 1
number_of Guarantees = 2
number_of Securities = 3

-- its amount, and the four amounts with it put anew
abbrev pub kind_in : Kinds → Kind → ℕ
kind_in k Cash = k.cash
kind_in k Deposits = k.deposits
kind_in k Guarantees = k.guarantees
kind_in k Securities = k.securities

abbrev pub with_kind : Kinds → Kind → ℕ → Kinds
with_kind k Cash x = record { cash = x; deposits = k.deposits; guarantees = k.guarantees; securities = k.securities }
with_kind k Deposits x = record { cash = k.cash; deposits = x; guarantees = k.guarantees; securities = k.securities }
with_kind k Guarantees x = record { cash = k.cash; deposits = k.deposits; guarantees = x; securities = k.securities }
with_kind k Securities x = record { cash = k.cash; deposits = k.deposits; guarantees = k.guarantees; securities = x }

-- no other has an amount
abbrev pub only_kind : Kind → ℕ → Kinds
only_kind kind x = with_kind (record { cash = 0; deposits = 0; guarantees = 0; securities = 0 }) kind x
