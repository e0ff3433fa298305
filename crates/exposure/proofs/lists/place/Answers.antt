-- `exposure::lists::place` meets its contract.
use Rattle.exposure.proofs.lists.place.Goals as goal

pub returns-in-Intraday : goal.returns-in-Intraday
returns-in-Intraday c = rw c.in-Intraday.is

pub returns-in-EndOfDay : goal.returns-in-EndOfDay
returns-in-EndOfDay c = rw c.in-EndOfDay.is
