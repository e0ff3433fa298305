-- `dayfile::reading::read_at` meets its contract.
use Rattle.dayfile.proofs.Numbers.{read_named}
use Rattle.dayfile.proofs.reading.read_at.Goals as goal

pub returns : goal.returns
returns c =
    let whole = read_named _ _ _ c.answer_at.ensures in
    record { value = whole.0; result_value = whole.1 }
