-- `text::texts::word` meets its contract.
use native.Mathlib.Omega.{arith}
use Rattle.text.proofs.TextWords.{four-word}
use Rattle.text.proofs.texts.word.Goals as goal

pub returns : goal.returns
returns c = (omega arith, four-word _ _ _ _ c.requires.0 c.requires.1 c.requires.2 c.requires.3)
