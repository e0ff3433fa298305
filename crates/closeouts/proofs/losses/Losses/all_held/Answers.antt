use Rattle.std.proofs.Common.{◌&&◌, length, sym, ap, ◌∙◌}
use Rattle.sums.proofs.Sums.{all_none}
use Rattle.closeouts.proofs.Named.{held_more}
use Rattle.closeouts.proofs.losses.Losses.all_held.Goals as goal

pub loop-i-init : goal.loop-i-init
loop-i-init c = sym (all_none _)

pub loop-i-preserved : goal.loop-i-preserved
loop-i-preserved c =
    let rows = c.args.rows.now in
    ap (λ t. c.loop-i.ok && t) c.is_some-ok.ensures ∙ held_more rows (length rows) c.args.self.now.numbers c.loop-i.i _ _ c.loop-i.invariant c.first_place.ensures
