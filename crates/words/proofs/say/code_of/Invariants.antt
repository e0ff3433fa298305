use Rattle.std.proofs.Common.{◌≡◌, ◌+◌, drop}
use Rattle.words.specs.Words.{code_words, place_in, code_of}
use Rattle.words.proofs.say.code_of.Given as goal

abbrev pub invariant-loop-i : goal.invariant-loop-i
invariant-loop-i l = code_of l.word ≡ place_in l.word (drop l.i code_words) (l.i + 1)
