-- `archives::with_entry` meets its contract: the line is made in a room of its own.
use mathlib.Core.List.{List}
use mathlib.Core.Path.{◌≡◌, sym, ap}
use Prim.Native.Nat.{ℕ}
use native.Mathlib.Omega.{arith}
use lib.ListN.{length, take}
use lib.Seq.{length-take-le}
use Rattle.archives.specs.Entries.{entry_line}
use Rattle.archives.specs.Files.{with_line}
use Rattle.archives.specs.Inner.{Holds}
use Rattle.archives.proofs.Held.{holds_same, holds_as, holds_more}
use Rattle.archives.proofs.with_entry.Goals as goal

pub slice_bounds-with_line-end : goal.slice_bounds-with_line-end
slice_bounds-with_line-end c =
    let made : let a = c.args in
    Holds c.put_entry-k.new.room c.put_entry-k.result (entry_line a.number a.sort a.tm) =
    holds_more (holds_same _ 0 (omega arith)) c.put_entry-k.ensures.puts
    in
    let long : length (take c.put_entry-k.result c.put_entry-k.new.room) ≡ c.put_entry-k.result =
    length-take-le _ _ made.within
    in sym long

pub with_line-requires : goal.with_line-requires
with_line-requires c =
    let made : let a = c.args in
    Holds c.put_entry-k.new.room c.put_entry-k.result (entry_line a.number a.sort a.tm) =
    holds_more (holds_same _ 0 (omega arith)) c.put_entry-k.ensures.puts
    in
    let long : length (take c.put_entry-k.result c.put_entry-k.new.room) ≡ c.put_entry-k.result =
    length-take-le _ _ made.within
    in
    let p = c in
    omega (arith, long, p.put_entry-k.ensures.upper_bound)

pub returns : goal.returns
returns c =
    let made : let a = c.args in
    Holds c.put_entry-k.new.room c.put_entry-k.result (entry_line a.number a.sort a.tm) =
    holds_more (holds_same _ 0 (omega arith)) c.put_entry-k.ensures.puts
    in
    let long : length (take c.put_entry-k.result c.put_entry-k.new.room) ≡ c.put_entry-k.result =
    length-take-le _ _ made.within
    in
    let t = c in
    let p = t in
    let a = p.args in record { holds = holds_as (ap (λ (l : List ℕ). with_line (take a.n a.room.now) l) made.is) t.with_line.ensures.holds; upper_bound = omega (arith, t.with_line.ensures.upper_bound, long, p.put_entry-k.ensures.upper_bound) }
