use Rattle.words.proofs.Answers.{nothing-held, bad-held, raw-held, says-held}
use Rattle.words.proofs.one.bytes_meant.Goals as goal

pub returns-in-Nothing : goal.returns-in-Nothing
returns-in-Nothing c = nothing-held _ _ _ c.line_says.ensures _ c.in-Nothing.is

pub returns-in-Says : goal.returns-in-Says
returns-in-Says c =
    let q = c in
    let l = q in
    let a = l in
    says-held _ _ _ l.line_says.ensures a.args.room.now _ _ _ q.in-Says.is a.requires c.write.ensures.value.0 c.write.ensures.room_after

pub returns-in-Raw : goal.returns-in-Raw
returns-in-Raw c =
    let q = c in
    raw-held _ _ _ q.line_says.ensures _ _ _ q.in-Raw.is c.raw_meant.ensures

pub returns-in-Bad : goal.returns-in-Bad
returns-in-Bad c = bad-held _ _ _ c.line_says.ensures _ _ c.in-Bad.is
