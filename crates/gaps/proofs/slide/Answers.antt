-- `gaps::slide` meets its contract.
use mathlib.Core.Path.{refl, ap}
use lib.ListN.{set}
use borrow.Author.Rules.{rules}
use Rattle.std.proofs.lemmas.List.{get_or_default}
use Rattle.sums.proofs.Choices.{pick_first, pick_second}
use Rattle.gaps.proofs.slide.Goals as goal

pub returns-then-kept : goal.returns-then-kept
returns-then-kept g c =
    let e = get_or_default c.args.xs.now c.args.i c.index-xs-i.result c.args.blank (search rules) in
    pick_first _ c.if-kept.true (ap (set (set c.args.xs.now c.args.i c.args.blank) c.args.k) e)

pub returns-else-kept : goal.returns-else-kept
returns-else-kept g c = pick_second _ c.if-kept.false refl
