-- `archival::without_retired` meets its contract.
use borrow.Author.Rules.{rules}
use Rattle.archival.proofs.Closing.{sound-closable, closed-table}
use Rattle.archival.proofs.without_retired.Goals as goal

pub close_gaps-requires : goal.close_gaps-requires
close_gaps-requires c = record {
  sized = record { sorts = search rules; lives = search rules; tms = search rules; words = search rules };
  closable = sound-closable c.args.t c.requires (search rules) (search rules);
}

pub returns : goal.returns
returns c = closed-table c.args.t _ c.close_gaps.ensures.sized_2 c.close_gaps.ensures.numbers_after
