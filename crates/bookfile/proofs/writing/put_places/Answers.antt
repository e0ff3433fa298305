-- `bookfile::writing::put_places` meets its contract: the first i places stand behind the head.
use mathlib.Core.Path.{◌≡◌, refl, sym, ap, ◌∙◌}
use native.Mathlib.Omega.{arith}
use lib.Seq.{sets}
use Rattle.bookfile.specs.Written.{joined, place_bytes}
use Rattle.bookfile.specs.declared.Version.TheVariants.{Two}
use Rattle.bookfile.specs.Versions.{place_at}
use Rattle.bookfile.proofs.Joining.{joined-put}
use Rattle.bookfile.proofs.Parts.{length-place, put-place}
use Rattle.bookfile.proofs.writing.put_places.Goals as goal

pub loop-i-init : goal.loop-i-init
unfolding joined
loop-i-init c = (c.requires, refl)

pub loop-i-preserved : goal.loop-i-preserved
loop-i-preserved c =
    let ck = c in
    let ca = ck in
    let cm = ca in
    let cn = cm in
    let cs = cn in
    let c0 = cs in
    let l = c0.loop-i in
    let t = c0.args.t in (
      ck.put_kept.auto.room ∙ ca.put_amounts.auto.room ∙ cm.put_marks.auto.room ∙ cn.put2.auto.room ∙ l.invariant.0,
      joined-put (place_bytes Two t) 95 (length-place Two t) _ _ _ 12 l.i l.invariant.1
          (put-place t l.room _ _ _ _ (place_at Two l.i) _ l.i cs.sort_at-sort.ensures.0 cn.put2.ensures cm.put_marks.ensures ca.put_amounts.ensures ck.put_kept.ensures),
    )

pub shape_of-room : goal.shape_of-room
shape_of-room c = c.loop-i.invariant.0 ∙ sym c.requires

pub returns : goal.returns
returns c =
    let l = c.loop-i in
    let a = c.args in
    let e : l.i ≡ 256 = omega arith in
    l.invariant.1 ∙ ap (λ n. sets a.room.now 12 (joined (place_bytes Two a.t) n)) e
