-- What the absence of faults says of a record's amounts: they are within the ceiling, so that no sum of a verdict passes a word.
use Rattle.dayfile.specs.declared.Record.{Record}
use Rattle.dayfile.specs.Records.{least_pledged, bit}
use Rattle.dayfile.proofs.Good.{Good, amount-most}
use Rattle.rules.specs.Inner.{AmountsIn}

-- no amount of a good record passes the ceiling
pub amounts-in : (r : Record) → Good r → AmountsIn r
amounts-in r g = record {
  kinds = (
    amount-most (bit 0 r.named) 1 r.kinds.cash g.cash,
    amount-most (bit 1 r.named) 1 r.kinds.deposits g.deposits,
    amount-most (bit 2 r.named) 1 r.kinds.guarantees g.guarantees,
    amount-most (bit 3 r.named) 1 r.kinds.securities g.securities,
  );
  pledged = amount-most (bit 4 r.named) (least_pledged r.code) r.pledged g.pledged;
  margin = amount-most (bit 5 r.named) 0 r.margin g.margin;
}
