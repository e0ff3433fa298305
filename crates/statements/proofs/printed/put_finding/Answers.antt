use Rattle.std.proofs.Common.{ap, ◌∙◌, arith}
use Rattle.text.specs.Numbers.{followed}
use Rattle.text.proofs.Puts.{puts-as, and_then}
use Rattle.statements.proofs.Wording.{alone, placed}
use Rattle.statements.proofs.printed.put_finding.Goals as goal

pub returns-then-finding-lt24 : goal.returns-then-finding-lt24
returns-then-finding-lt24 c = puts-as (ap (λ k. followed k 10) c.from.ensures ∙ alone _ c.if-finding-lt24.true) c.put_number.ensures.puts

pub returns : goal.returns
returns c = puts-as (placed c.args.finding (omega (arith, c.if-finding-lt24.false))) (and_then _ _ c.put_refused-p.ensures.puts c.put_wanted.ensures)
