use Rattle.words.proofs.Saying.{serial-no, serial-is}
use Rattle.words.proofs.say.serial_at.Goals as goal

pub returns-then-n-gt65535 : goal.returns-then-n-gt65535
returns-then-n-gt65535 c = serial-no _ _ c.if-n-gt65535.true

pub returns : goal.returns
returns c =
    let a = c.args in
    serial-is a.text.now a.n c.if-n-gt65535.false _ _ c.word_at-word.ensures c.word_then.ensures
