-- `desk::stays` meets its contract.
use mathlib.Core.Path.{◌≡◌}
use Rattle.table.specs.declared.Table.{Table}
use Rattle.desk.specs.declared.Answer.{Answer}
use Rattle.desk.specs.declared.Carried.{Carried}
use Rattle.desk.proofs.stays.Goals as goal

both : {a a' : Answer} {t t' : Table} → a ≡ a' → t ≡ t' → ◌≡◌ {A = Carried} (record { answer = a; table = t }) (record { answer = a'; table = t' })
both p q = cc

pub returns : goal.returns
returns c = both c.about_nobody-answer.ensures c.same-table.ensures
