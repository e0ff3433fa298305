-- `lines::closing::put_word` meets its contract.
use Rattle.lines.proofs.closing.put_word.Goals as goal

pub returns-in-End : goal.returns-in-End
returns-in-End c = rw c.in-End.is c.put_text.ensures

pub returns-in-Cut : goal.returns-in-Cut
returns-in-Cut c = rw c.in-Cut.is c.put_text-in-Cut.ensures

pub returns-in-Long : goal.returns-in-Long
returns-in-Long c = rw c.in-Long.is c.put_text-in-Long.ensures

pub returns-in-Unsound : goal.returns-in-Unsound
returns-in-Unsound c = rw c.in-Unsound.is c.put_text-in-Unsound.ensures
