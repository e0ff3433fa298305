use Rattle.words.proofs.Saying.{worded-serial, worded-raw, worded-coded}
use Rattle.words.proofs.say.worded_at.Goals as goal

pub returns-then-word-eq-SERIAL : goal.returns-then-word-eq-SERIAL
returns-then-word-eq-SERIAL c =
    let a = c.args in
    worded-serial a.text.now a.word a.running c.if-word-eq-SERIAL.true _ _ c.number_at-n.ensures c.serial_at.ensures

pub returns-then-word-eq-RAW : goal.returns-then-word-eq-RAW
returns-then-word-eq-RAW c =
    let a = c.args in
    worded-raw a.text.now a.word a.running c.if-word-eq-SERIAL.false c.if-word-eq-RAW.true

pub returns : goal.returns
returns c =
    let a = c.args in
    worded-coded a.text.now a.word a.running c.if-word-eq-SERIAL.false c.if-word-eq-RAW.false _ c.word_then.ensures
