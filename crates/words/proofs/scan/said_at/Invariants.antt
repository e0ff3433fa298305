use Rattle.std.proofs.Common.{◌≡◌, ◌+◌, ◌*◌, ◌^◌, ◌≤◌, max, drop}
use Rattle.words.specs.Tokens.{said}
use Rattle.words.proofs.scan.said_at.Given as goal

abbrev pub invariant-loop-i : goal.invariant-loop-i
invariant-loop-i l =
    ((l.n + 1) * l.base ^ l.left ≤ 18446744073709551616) × (said l.base l.low l.most l.start (drop l.at l.text) l.at ≡ said l.base l.low l.left l.n (drop l.i l.text) l.i) × (l.i ≤ max l.at l.i-end)
