-- `steps::carry` meets its contract.
use Rattle.std.proofs.Common.{◌&&◌, leb, sym, ap, ◌∙◌}
use Rattle.steps.specs.Steps.{gone_with}
use Rattle.steps.proofs.Carried.{opening-has-room}
use Rattle.steps.proofs.carry.Goals as goal

pub decide-n-requires : goal.decide-n-requires
decide-n-requires c = c.requires

pub gone_with-requires : goal.gone_with-requires
gone_with-requires c = λ e o.
    let g = c.requires.1 in
    opening-has-room _ (c.decide-n.ensures.each g.of g.asks) e (ap (λ k. leb 1 k && leb k 3) g.asks.coded ∙ o)

pub returns : goal.returns
returns c =
    let d = c.decide-n in
    let at = c.args.at in
    record {
      each = λ r q. rw (c.gone_with.ensures ∙ ap (λ k. gone_with d.result (leb 1 k && leb k 3) at.count at.serial at.next) (sym q.coded)) (d.ensures.each r q);
      rest = d.ensures.rest;
    }
