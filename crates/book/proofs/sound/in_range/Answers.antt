-- `book::sound::in_range` meets its contract.
use Rattle.book.proofs.sound.in_range.Goals as goal

pub returns : goal.returns
returns c =
    let capped = c in
    let kinds = capped in
    rw (
      capped.kinds_capped.ensures,
      c.kinds_within.ensures,
      kinds.kinds_at-received.ensures,
      kinds.kinds_at-allocated.ensures,
      c.word_at.ensures,
      c.word_at-2.ensures,
    )
