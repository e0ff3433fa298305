-- `text::texts::put_word` meets its contract: four bytes, one by one.
use native.Mathlib.Omega.{arith}
use lib.ListN.{length-set}
use Rattle.text.proofs.TextWords.{four-put}
use Rattle.text.proofs.texts.put_word.Goals as goal

pub bounds-room-at-2 : goal.bounds-room-at-2
bounds-room-at-2 c = simp length-set (omega arith)

pub bounds-room-at-3 : goal.bounds-room-at-3
bounds-room-at-3 c = simp length-set (omega arith)

pub bounds-room-at-4 : goal.bounds-room-at-4
bounds-room-at-4 c = simp length-set (omega arith)

pub returns : goal.returns
returns c = four-put _ _ _ _ _ _ c.requires
