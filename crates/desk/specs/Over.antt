-- K12: "every call answers as on the old order and leaves the old one's book, turned over."
use Rattle.table.specs.Words.{turned}
use Rattle.desk.specs.declared.Carried.{Carried}
use Rattle.desk.specs.declared.CarriedNext.{CarriedNext}
use Rattle.desk.specs.Steps.{Next, Done}

abbrev pub over_done : Done → Carried
over_done d = record { answer = d.answer; table = turned d.book }

abbrev pub over_next : Next → CarriedNext
over_next n = record { answer = n.answer; table = turned n.book; place = n.place }
