-- Document 02, K9: a position's fault and its charge.
use Rattle.std.specs.Prelude.{Bool, true, false, ◌&&◌, List, [], ◌∷◌, ℕ, ◌+◌, ◌-◌, ◌*◌, ◌/◌, eqb, leb, ltb}
use Rattle.sums.specs.Choice.{unless_refused}
use Rattle.sums.specs.Table.{Line, ◌when◌, first}
use Rattle.rows.specs.Rows.{ceiling}
use Rattle.currency.specs.declared.Side.{Side}
use Rattle.currency.specs.declared.Side.TheVariants.{Futures, Short, Long, Spread}
use Rattle.currency.specs.declared.Position.{Position}
use Rattle.currency.specs.Rates.{none, rate_of}

-- "option (short or long)"
abbrev pub is_option : Side → Bool
is_option Futures = false
is_option Short = true
is_option Long = true
is_option Spread = false

-- "18 unknown product, 19 option (short or long) not listed, 20 notional .. past the ceiling .., in that order"
abbrev pub faults : Position → List Line
faults p =
    (18 when leb 10 p.product)
    ∷ (19 when (is_option p.side && eqb (rate_of p.product p.side) none))
    ∷ (20 when ltb ceiling p.notional)
    ∷ []

unfoldable pub fault_of : Position → ℕ
fault_of p = first (faults p)

-- "18 to 20 by first position at fault", or 0
unfoldable pub first_fault : List Position → ℕ
first_fault [] = 0
first_fault (p ∷ rest) = unless_refused (fault_of p) (first_fault rest) (λ n. n)

-- "Long options carry none."
abbrev pub carried_by : Side → ℕ → ℕ
carried_by Futures notional = notional
carried_by Short notional = notional
carried_by Long notional = 0
carried_by Spread notional = notional

-- notional times rate
abbrev pub share_of : Position → ℕ
share_of p = carried_by p.side p.notional * rate_of p.product p.side

-- "A futures calendar spread is charged on a third of the far month's value.": a rate is one of so many parts
abbrev pub parts_of : Side → ℕ
parts_of Futures = 100000
parts_of Short = 100000
parts_of Long = 100000
parts_of Spread = 300000

-- "Round up to a paisa"
abbrev pub rounded_up : ℕ → ℕ → ℕ
rounded_up share parts = (share + (parts - 1)) / parts

-- "once per position"
unfoldable pub charge_of : Position → ℕ
charge_of p = rounded_up (share_of p) (parts_of p.side)

-- "It adds up"
unfoldable pub charges : List Position → ℕ
charges [] = 0
charges (p ∷ rest) = charge_of p + charges rest
