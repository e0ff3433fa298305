-- Document 02, K10: "the intraday current exposure margin of 000".
use Rattle.std.specs.Prelude.{Bool, ◌&&◌, ℕ, ℤ, pos, negsuc, neg_ℤ, ◌+ℤ◌}
use Rattle.std.specs.Int.Signed.{le_z}
use Rattle.sums.specs.Choice.{pick}
use Rattle.rows.specs.Rows.{ceiling}
use Rattle.exposure.specs.declared.Exposure.{Exposure}

-- "Each figure is signed, from minus the ceiling to the ceiling."
abbrev pub in_range : ℤ → Bool
in_range z = le_z (neg_ℤ (pos ceiling)) z && le_z z (pos ceiling)

abbrev pub all_in_range : ℤ → ℤ → ℤ → ℤ → Bool
all_in_range premium loss exercise settlement = in_range premium && in_range loss && in_range exercise && in_range settlement

-- "payable if above 0 and otherwise nothing"
abbrev pub payable_of : ℤ → ℕ
payable_of (pos n) = n
payable_of (negsuc n) = 0

-- the amount where every figure is in range; "22, a figure out of range"
abbrev pub answer : Bool → ℤ → Exposure
answer ranged total = pick ranged (record { refusal = 0; amount = payable_of total }) (record { refusal = 22; amount = 0 })

-- "premium payable less receivable, plus crystallised loss less profit": each of the two is one figure, above 0 where it is
-- payable
unfoldable pub intraday_of : ℤ → ℤ → Exposure
intraday_of premium loss = answer (in_range premium && in_range loss) (premium +ℤ loss)

-- "The end of day form adds exercise and final settlement figures."
abbrev pub total_of : ℤ → ℤ → ℤ → ℤ → ℤ
total_of premium loss exercise settlement = premium +ℤ loss +ℤ exercise +ℤ settlement

unfoldable pub exposure_of : ℤ → ℤ → ℤ → ℤ → Exposure
exposure_of premium loss exercise settlement = answer (all_in_range premium loss exercise settlement) (total_of premium loss exercise settlement)
