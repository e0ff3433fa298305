-- `exposure::lists::put_all` meets its contract.
use mathlib.Core.Path.{sym, ap}
use Prim.Native.Nat.{◌*◌}
use native.Mathlib.Omega.{arith}
use lib.ListN.{length, length-set}
use Rattle.sums.proofs.Lists.{list-is}
use Rattle.exposure.specs.Lists.{number_in_room}
use Rattle.exposure.proofs.Listing.{client-within, two-more}
use Rattle.exposure.proofs.lists.put_all.Goals as goal

pub loop-i-init : goal.loop-i-init
loop-i-init c = (c.requires.0, c.requires.1, λ k l. absurd (omega arith))

pub client-exposure-requires : goal.client-exposure-requires
client-exposure-requires c =
    let at = c in
    let a = at.args in
    client-within a.form at.loop-i.i (length a.figures.now) (omega (arith, at.loop-i.invariant.0))

pub loop-i-preserved : goal.loop-i-preserved
loop-i-preserved c =
    let d = c in
    let at = d in
    let a = at.args in
    let v = at.loop-i.invariant in (
      v.0,
      simp length-set v.1,
      two-more a.form a.figures.now at.loop-i.i at.loop-i.room a.n d.client-exposure.result.refusal d.client-exposure.result.amount v.1 (omega arith) v.2
          (ap (λ e. e.refusal) d.client-exposure.ensures) (ap (λ e. e.amount) d.client-exposure.ensures),
    )

pub returns : goal.returns
returns c =
    let at = c in
    let a = at.args in
    sym (list-is (number_in_room a.form a.figures.now) (2 * a.n) 0 at.loop-i.room at.loop-i.invariant.1 (λ k l. at.loop-i.invariant.2 k (omega arith)))
