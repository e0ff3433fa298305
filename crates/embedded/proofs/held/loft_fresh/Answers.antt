-- `embedded::held::loft_fresh` meets its contract.
use mathlib.Core.Path.{ap, ◌∙◌}
use Rattle.bookfile.specs.Written.{room_after}
use Rattle.embedded.proofs.held.loft_fresh.Goals as goal

pub returns : goal.returns
returns c =
    let w = c in
    let room = w.args.book.now in
    record { value = w.write.ensures.value; book_after = w.write.ensures.room_after ∙ ap (λ t. room_after t room) w.fresh.ensures }
