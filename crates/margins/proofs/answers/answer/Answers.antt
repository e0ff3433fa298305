use Rattle.std.proofs.Common.{refl, arith}
use Rattle.text.proofs.Puts.{puts_none, puts-as}
use Rattle.margins.proofs.Showing.{none-printed, bad-told, made-printed, made_told}
use Rattle.margins.proofs.answers.answer.Goals as goal

pub returns-in-Some-clause-puts : goal.returns-in-Some-clause-puts
returns-in-Some-clause-puts c = puts-as (none-printed _ _ _ c.in-Some.is) (puts_none _ 0 refl (omega arith))

pub returns-in-Some-clause-puts_2 : goal.returns-in-Some-clause-puts_2
returns-in-Some-clause-puts_2 c = puts-as (bad-told _ _ _ c.in-Some.is) c.put_bad-told.ensures

pub returns-clause-puts : goal.returns-clause-puts
returns-clause-puts c = puts-as (made-printed _ _ _ c.in_default.is c.made_for-made.ensures) c.put_made-printed.ensures

pub returns-clause-puts_2 : goal.returns-clause-puts_2
returns-clause-puts_2 c = puts-as (made_told _ _ _ c.in_default.is c.made_for-made.ensures) c.put_told-told.ensures
