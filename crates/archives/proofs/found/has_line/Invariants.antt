-- `archives::found::has_line` meets its contract. The invariant: what is left of the file decides, and whether a line begins there.
use Rattle.std.proofs.Common.{◌≡◌, drop}
use Rattle.archives.specs.Files.{has_line, has_from}
use Rattle.archives.proofs.found.has_line.Given as goal

abbrev pub invariant-loop-i : goal.invariant-loop-i
invariant-loop-i l = has_line l.file l.line ≡ has_from l.begins (drop l.i l.file) l.line
