use Rattle.std.proofs.Common.{◌≡◌, ◌+◌, ◌-◌, ◌≤◌, length, take, drop}
use Rattle.words.specs.Texts.{lines_of}
use Rattle.closeouts.specs.LossLines.{told_of, told_from}
use Rattle.closeouts.proofs.loss_lines.read_lines.Given as goal

abbrev pub invariant-loop-place : goal.invariant-loop-place
invariant-loop-place l = (told_from l.line (take l.losses.count l.losses.numbers) (take l.losses.count l.losses.list) (lines_of (drop l.place l.text)) ≡ told_of l.text) × (l.losses.count ≤ 256) × (1 ≤ l.line) × (l.line ≤ l.place + 1) × (l.place ≤ length l.text)

abbrev pub decreases-loop-place : goal.decreases-loop-place
decreases-loop-place l = length l.text - l.place
