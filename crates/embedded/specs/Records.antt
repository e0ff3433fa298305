-- include/loft.h: a record handed over as values.
use Rattle.std.specs.Prelude.{List, ℕ, get_or}
use Rattle.dayfile.specs.declared.Record.{Record}

-- "`amounts` are LOFT_AMOUNTS: cash, deposits, guarantees, securities, pledged, margin"; one that isn't there is 0
abbrev pub record_of : ℕ → ℕ → ℕ → ℕ → List ℕ → Record
record_of serial code named account amounts = record {
  serial = serial;
  code = code;
  named = named;
  account = account;
  kinds = record { cash = get_or amounts 0 0; deposits = get_or amounts 1 0; guarantees = get_or amounts 2 0; securities = get_or amounts 3 0 };
  pledged = get_or amounts 4 0;
  margin = get_or amounts 5 0;
}
