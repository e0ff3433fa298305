use Rattle.std.proofs.Common.{◌≤◌, length, ap, ◌∙◌, arith}
use Rattle.streams.specs.Names.{name_of}
use Rattle.streams.proofs.NamesPut.{name-anew}
use Rattle.streams.proofs.beside.create_beside.Goals as goal

pub loop-tries-preserved : goal.loop-tries-preserved
loop-tries-preserved c =
    let l = c.loop-tries in
    let t = c.create_try-tried in
    let h : 2 ≤ length l.name = omega (arith, c.requires, l.invariant.1) in (
      λ k. ap (name_of k) t.ensures.name_after ∙ name-anew k l.tries l.name h ∙ l.invariant.0 k,
      t.auto.name ∙ l.invariant.1,
    )
