-- `currency::rates::rate` meets its contract.
use mathlib.Core.Path.{ap}
use Prim.Native.Nat.{◌+◌, ◌*◌, ◌≤◌}
use native.Mathlib.Omega.{arith}
use lib.ListN.{get_or}
use Rattle.currency.specs.declared.Side.{Side}
use Rattle.currency.specs.declared.Side.TheVariants.{Futures, Short, Long, Spread}
use Rattle.currency.specs.Rates.{rates, column_of, rate_of}
use Rattle.currency.proofs.rates.rate.Goals as goal

column-most : (side : Side) → column_of side ≤ 1
column-most Futures = omega arith
column-most Short = omega arith
column-most Long = omega arith
column-most Spread = omega arith

pub overflow_add-at : goal.overflow_add-at
overflow_add-at c = omega (arith, c.column.ensures, column-most c.args.side)

pub offset_bounds-at : goal.offset_bounds-at
offset_bounds-at c = omega (arith, c.column.ensures, column-most c.args.side)

pub returns : goal.returns
unfolding rates rate_of
returns c = ap (λ k. get_or rates (2 * c.args.product + k) 0) c.column.ensures
