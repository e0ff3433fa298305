-- `text::line::put_lines` meets its contract: `Lines` holds at each turn.
use mathlib.Core.Path.{◌≡◌}
use Prim.Native.Nat.{ℕ}
use native.Mathlib.Omega.{arith}
use Rattle.text.proofs.Puts.{puts-length}
use Rattle.text.proofs.Turns.{lines_start, line-more}
use Rattle.text.proofs.line.put_lines.Goals as goal

pub loop-i-init : goal.loop-i-init
loop-i-init c = lines_start _ _

pub put_line-at-requires : goal.put_line-at-requires
put_line-at-requires c = (c.requires.0, omega (arith, puts-length c.loop-i.invariant.puts))

pub loop-i-preserved : goal.loop-i-preserved
loop-i-preserved c = line-more (λ (k : ℕ). omega (arith, c.type_inv.numbers k)) c.loop-i.invariant c.put_line-at.ensures

pub shape_of-room : goal.shape_of-room
shape_of-room c = puts-length c.loop-i.invariant.puts

pub returns : goal.returns
returns c = let e : c.loop-i.i ≡ c.args.count = omega arith in rw e at c.loop-i.invariant.puts
