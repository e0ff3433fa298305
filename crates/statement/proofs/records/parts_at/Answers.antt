-- `statement::records::parts_at` meets its contract.
use Rattle.dayfile.proofs.Marks.{bit-lt}
use Rattle.statement.proofs.Bits.{ones-five}
use Rattle.statement.proofs.Reading.{within0, within1, within2, within3, within4, parts_at}
use Rattle.statement.proofs.records.parts_at.Goals as goal

pub number8_if-requires : goal.number8_if-requires
number8_if-requires c = (within0 _ _ _ _ _ _ _ _ (ones-five c.args.named c.requires.1) c.requires.0, bit-lt 0 c.args.named)

pub number8_if-requires-2 : goal.number8_if-requires-2
number8_if-requires-2 c = (within1 _ _ _ _ _ _ _ _ (ones-five c.args.named c.requires.1) c.requires.0, bit-lt 1 c.args.named)

pub number8_if-requires-3 : goal.number8_if-requires-3
number8_if-requires-3 c = (within2 _ _ _ _ _ _ _ _ (ones-five c.args.named c.requires.1) c.requires.0, bit-lt 2 c.args.named)

pub number8_if-requires-4 : goal.number8_if-requires-4
number8_if-requires-4 c = (within3 _ _ _ _ _ _ _ _ (ones-five c.args.named c.requires.1) c.requires.0, bit-lt 3 c.args.named)

pub number8_if-requires-5 : goal.number8_if-requires-5
number8_if-requires-5 c = (within4 _ _ _ _ _ _ _ _ (ones-five c.args.named c.requires.1) c.requires.0, bit-lt 4 c.args.named)

pub returns : goal.returns
returns c =
    let a = c.args in
    rw (
      c.number8_if.ensures,
      c.number8_if-2.ensures,
      c.number8_if-3.ensures,
      c.number8_if-4.ensures,
      c.number8_if-5.ensures,
    )
    (parts_at a.piece.now a.place a.named)
