-- `bookfile::writing::put_amounts` meets its contract.
use mathlib.Core.Path.{◌≡◌, refl, ap, ◌∙◌}
use Prim.Native.Nat.{◌+◌, ◌*◌}
use native.Mathlib.Omega.{arith}
use lib.Seq.{sets}
use Rattle.numbers.specs.Bytes.{bytes_of}
use Rattle.bookfile.specs.Written.{joined, amount_part}
use Rattle.bookfile.proofs.Joining.{joined-put}
use Rattle.bookfile.proofs.Parts.{length-amount}
use Rattle.bookfile.proofs.writing.put_amounts.Goals as goal

pub loop-k-init : goal.loop-k-init
unfolding joined
loop-k-init c = (refl, refl)

pub loop-k-preserved : goal.loop-k-preserved
loop-k-preserved c =
    let c1 = c in
    let c0 = c1 in
    let l = c0.loop-k in
    let a = c0.args in (
      c1.put8.auto.room ∙ l.invariant.0,
      joined-put (amount_part a.amounts.now a.i) 8 (length-amount a.amounts.now a.i) _ _ _ a.place l.k l.invariant.1
          (c1.put8.ensures ∙ ap (λ x. sets l.room (a.place + 8 * l.k) (bytes_of 8 x)) c1.word_at.ensures),
    )

pub shape_of-room : goal.shape_of-room
shape_of-room c = c.loop-k.invariant.0

pub returns : goal.returns
returns c =
    let l = c.loop-k in
    let a = c.args in
    let e : l.k ≡ 10 = omega arith in
    l.invariant.1 ∙ ap (λ n. sets a.room.now a.place (joined (amount_part a.amounts.now a.i) n)) e
