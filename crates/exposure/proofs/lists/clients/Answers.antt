-- `exposure::lists::clients` meets its contract.
use Rattle.exposure.proofs.lists.clients.Goals as goal

pub returns-in-Intraday : goal.returns-in-Intraday
returns-in-Intraday c = rw c.in-Intraday.is

pub returns-in-EndOfDay : goal.returns-in-EndOfDay
returns-in-EndOfDay c = rw c.in-EndOfDay.is
