-- `dayfile::records::good_amounts` meets its contract.
use mathlib.Core.Path.{sym, ◌∙◌}
use lib.Dec.{leb}
use borrow.Author.Tests.{eqb-true, leb-true}
use Rattle.sums.proofs.Choices.{and_split}
use Rattle.dayfile.specs.Records.{bit, least_pledged}
use Rattle.dayfile.specs.Taking.{mark_of}
use Rattle.dayfile.proofs.Judging.{kinds-suit, one-suits, no_other, no-kinds, unnamed-amount}
use Rattle.dayfile.proofs.faults.good_amounts.Goals as goal

pub returns-then-names_kinds : goal.returns-then-names_kinds
returns-then-names_kinds c =
    let n = c in
    let start = n in
    let r = start.args.record in
    let e = kinds-suit r.code r.named (sym n.names_kinds.ensures ∙ n.if-names_kinds.true) in
    let o = no_other r.named (leb-true r.named 15 (and_split (leb 1 r.named) (leb r.named 15) (e ∙ start.requires.1)).1) in
    cc (unnamed-amount (bit 4 r.named) (least_pledged r.code) r.pledged o.0, unnamed-amount (bit 5 r.named) 0 r.margin o.1)

pub returns : goal.returns
returns c =
    let n = c in
    let start = n in
    let r = start.args.record in
    let e = one-suits r.code r.named start.requires.0 (sym n.names_kinds.ensures ∙ n.if-names_kinds.false) in
    let o = no-kinds r.code r.named (eqb-true r.named (mark_of r.code) (e ∙ start.requires.1)) in
    cc (
      unnamed-amount (bit 0 r.named) 1 r.kinds.cash o.cash,
      unnamed-amount (bit 1 r.named) 1 r.kinds.deposits o.deposits,
      unnamed-amount (bit 2 r.named) 1 r.kinds.guarantees o.guarantees,
      unnamed-amount (bit 3 r.named) 1 r.kinds.securities o.securities,
    )
