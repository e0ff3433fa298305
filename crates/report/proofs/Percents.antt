-- K2's two conditions by the use that `holdings` shows in percent, for any use and collateral: "on at 90%, off below 85%".
use mathlib.Core.Bool.{Bool, true, false, not, ◌&&◌, ◌||◌}
use mathlib.Core.Path.{◌≡◌, refl}
use Prim.Native.Nat.{ℕ, ◌*◌, ◌/◌, ◌<◌}
use native.Mathlib.Omega.{arith}
use native.Mathlib.Nat.{le-div_iff_mul-le, div-lt_iff_lt-mul}
use lib.Dec.{eqb, ltb, leb}
use borrow.Author.Tests.{lt-ltb, le-ltb, leb-true, leb-false, le-leb, lt-leb, eqb-true, eqb-false}
use Rattle.sums.specs.Choice.{pick}
use Rattle.rows.specs.Modes.{turns_on, turns_off}
use Rattle.report.specs.declared.holding.Percent.TheVariants.{Tenths, Without}
use Rattle.report.specs.Holdings.{percent_of, at_least}

-- on: 90.0 or more, or `none`
pub on-at-90-percent : (used collateral : ℕ) → turns_on used collateral ≡ at_least 900 (percent_of used collateral)
unfolding percent_of pick
on-at-90-percent used collateral = by (eqb used 0) (eqb collateral 0) refl refl
  where
    some : 0 < collateral → (t : Bool) → leb 900 (100 * used / collateral) ≡ t → leb (9 * collateral) used ≡ t
    some l true e = le-leb (9 * collateral) used (omega (arith, (le-div_iff_mul-le l).0 (leb-true 900 (100 * used / collateral) e)))
    some l false e = lt-leb (9 * collateral) used (omega (arith, (div-lt_iff_lt-mul l).0 (leb-false 900 (100 * used / collateral) e)))

    by : (a b : Bool) → eqb used 0 ≡ a → eqb collateral 0 ≡ b
        → (not a && leb (9 * collateral) used) ≡ at_least 900 (pick a (Tenths 0) (pick b Without (Tenths (100 * used / collateral))))
    by true b p q = refl
    by false true p q = le-leb (9 * collateral) used (omega (arith, eqb-true collateral 0 q))
    by false false p q = some (omega (arith, eqb-false collateral 0 q)) _ refl

-- off: below 85.0
pub off-below-85-percent : (used collateral : ℕ) → turns_off used collateral ≡ not (at_least 850 (percent_of used collateral))
unfolding percent_of pick
off-below-85-percent used collateral = by (eqb used 0) (eqb collateral 0) refl refl
  where
    some : 0 < collateral → (t : Bool) → leb 850 (100 * used / collateral) ≡ t → ltb (2 * used) (17 * collateral) ≡ not t
    some l true e = le-ltb (2 * used) (17 * collateral) (omega (arith, (le-div_iff_mul-le l).0 (leb-true 850 (100 * used / collateral) e)))
    some l false e = lt-ltb (2 * used) (17 * collateral) (omega (arith, (div-lt_iff_lt-mul l).0 (leb-false 850 (100 * used / collateral) e)))

    by : (a b : Bool) → eqb used 0 ≡ a → eqb collateral 0 ≡ b
        → (a || ltb (2 * used) (17 * collateral)) ≡ not (at_least 850 (pick a (Tenths 0) (pick b Without (Tenths (100 * used / collateral)))))
    by true b p q = refl
    by false true p q = le-ltb (2 * used) (17 * collateral) (omega (arith, eqb-true collateral 0 q))
    by false false p q = some (omega (arith, eqb-false collateral 0 q)) _ refl
