-- How long a row's ten amounts are with the space behind each: none passes the ceiling, which has 14 digits.
use mathlib.Core.List.{List, [], ◌∷◌}
use Prim.Native.Nat.{ℕ, suc, ◌*◌, ◌≤◌, ◌<◌}
use native.Mathlib.Omega.{arith}
use lib.ListN.{length, get_or, length-append}
use Rattle.sums.specs.Listed.{list_to}
use Rattle.sums.proofs.Lists.{length-list_to, at-list_to}
use Rattle.rows.specs.declared.Row.{Row}
use Rattle.rows.specs.Rows.{ceiling}
use Rattle.rows.specs.Facts.{InRange}
use Rattle.table.specs.Words.{amount_of}
use Rattle.table.proofs.Gathered.{each-of-ten}
use Rattle.text.specs.Numbers.{space, followed, and_spaces}
use Rattle.text.proofs.Widths.{small-number}

spaces-most : (list : List ℕ) → ((i : ℕ) → i < length list → get_or list i 0 ≤ ceiling) → length (and_spaces list) ≤ 15 * length list
unfolding and_spaces
spaces-most [] h = omega arith
spaces-most (n ∷ rest) h =
    omega (
      arith,
      length-append (followed n space) (and_spaces rest),
      small-number 13 n space (omega (arith, h 0 (omega arith))),
      spaces-most rest (λ i l. h (suc i) (omega arith)),
    )

each_within : (r : Row) → InRange r → (k : ℕ) → k < 10 → amount_of r k ≤ ceiling
each_within r h =
    let a = h.received in
    let b = h.allocated in
    each-of-ten (λ k. amount_of r k ≤ ceiling) a.0 a.1 a.2 a.3 (omega arith) (omega arith) (omega arith) (omega arith) h.pledged h.margin

pub amounts-most : (r : Row) → InRange r → length (and_spaces (list_to (amount_of r) 10)) ≤ 150
amounts-most r h =
    let f = amount_of r in
    omega (
      arith,
      length-list_to f 10,
      spaces-most (list_to f 10) (λ i l. let k : i < 10 = omega (arith, length-list_to f 10) in rw (at-list_to f 10 i 0 k) (each_within r h i k)),
    )
