-- `currency::charges::charge` meets its contract.
use mathlib.Core.Path.{◌≡◌, ap₂, ◌∙◌}
use Prim.Native.Nat.{◌*◌}
use native.Mathlib.Omega.{arith}
use Rattle.currency.specs.Charges.{share_of, rounded_up, charge_of}
use Rattle.currency.proofs.Faultless.{faultless, share-most, parts-range}
use Rattle.currency.proofs.charges.charge.Goals as goal

pub rate-requires : goal.rate-requires
rate-requires c = (faultless c.args.position c.requires).known

pub overflow_mul-share : goal.overflow_mul-share
overflow_mul-share c =
    let share-is : c.carried.result * c.rate.result ≡ share_of c.args.position =
    ap₂ ◌*◌ c.carried.ensures c.rate.ensures
    in
    let s = c in
    record { fits = omega (arith, share-most s.args.position s.requires, share-is) }

pub rounded_up-requires : goal.rounded_up-requires
rounded_up-requires c =
    let share-is : c.carried.result * c.rate.result ≡ share_of c.args.position =
    ap₂ ◌*◌ c.carried.ensures c.rate.ensures
    in
    let s = c in
    let parts = parts-range s.args.position.side in
    (omega (arith, share-most s.args.position s.requires, share-is), omega (arith, c.parts.ensures, parts.0), omega (arith, c.parts.ensures, parts.1))

pub returns : goal.returns
unfolding charge_of
returns c =
    let share-is : c.carried.result * c.rate.result ≡ share_of c.args.position =
    ap₂ ◌*◌ c.carried.ensures c.rate.ensures
    in c.rounded_up.ensures ∙ ap₂ rounded_up share-is c.parts.ensures
