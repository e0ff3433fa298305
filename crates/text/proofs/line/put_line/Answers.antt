-- `text::line::put_line` meets its contract: each number where the one before it ended, over what that spilt.
use Rattle.text.specs.Numbers.{spaced}
use Rattle.text.proofs.Spilling.{then-put}
use Rattle.text.proofs.Widths.{some_more}
use Rattle.text.proofs.line.put_line.Goals as goal

pub returns : goal.returns
unfolding spaced
returns c =
    let last = c in
    let third = last in
    let second = third in
    let first = second in
    then-put first.put_spilling-p1.ensures.spills _ (some_more _ _ _)
    (then-put second.put_spilling-p2.ensures.spills _ (some_more _ _ _)
    (then-put third.put_spilling-p3.ensures.spills _ (some_more _ _ _) last.put_end.ensures))
