-- `archives::entry::put_entry` meets its contract: each part where the one before it ended.
use native.Mathlib.Omega.{arith}
use Rattle.text.proofs.Puts.{and_then}
use Rattle.archives.specs.Entries.{entry_line}
use Rattle.archives.proofs.entry.put_entry.Goals as goal

pub returns : goal.returns
unfolding entry_line
returns c =
    let t = c in
    let s = t in
    let n = s in
    record { puts = and_then _ _ n.put_short-p.ensures.puts (and_then _ _ s.put_sort-q.ensures.puts t.put_short.ensures.puts); upper_bound = omega arith }
