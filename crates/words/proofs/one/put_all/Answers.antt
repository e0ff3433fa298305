use Rattle.words.proofs.Answers.{all_short, all-put}
use Rattle.words.proofs.one.put_all.Goals as goal

pub returns-then-room-bytes : goal.returns-then-room-bytes
returns-then-room-bytes c =
    let whole = all_short _ _ c.if-room-bytes.true in
    record { value = whole.0; room_after = whole.1 }

pub returns : goal.returns
returns c =
    let whole = all-put _ _ c.put_text-n.ensures in
    record { value = whole.0; room_after = whole.1 }
