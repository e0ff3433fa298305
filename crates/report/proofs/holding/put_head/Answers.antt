use Rattle.text.proofs.Puts.{and_then}
use Rattle.report.specs.Holdings.{book_line, columns}
use Rattle.report.proofs.holding.put_head.Goals as goal

pub returns-clause-puts : goal.returns-clause-puts
unfolding book_line columns
returns-clause-puts c =
    let book = and_then _ _ c.put_text-p1.ensures (and_then _ _ c.put_number-p2.ensures.puts (and_then _ _ c.put_text-p3.ensures c.put_number-p4.ensures.puts)) in
    and_then _ _ book c.put_text.ensures
