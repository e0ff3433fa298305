use Rattle.std.proofs.Common.{ℕ, ◌≤◌, ◌*◌, length, ap, ◌∙◌, arith}
use lib.ListN.{length-replicate}
use lib.Seq.{length-take-le}
use Rattle.sums.specs.Room.{at_start}
use Rattle.closeouts.proofs.Texts.{text-is}
use Rattle.closeouts.proofs.close_out_text.Goals as goal

pub returns-clause-value : goal.returns-clause-value
returns-clause-value c =
    let o = c.close_out-closed in
    let n = c.accounts-wanted.result in
    let z = c.zeros-amounts in
    let wide : 4 * n ≤ length z.result = omega (arith, ap length z.ensures, length-replicate {A = ℕ} 1024 0, c.accounts-wanted.ensures) in
    let e = text-is _ _ _ _ _ _ _ z.ensures c.accounts-wanted.ensures (o.auto.room ∙ length-take-le _ _ wide) o.ensures.answer o.ensures.rows in
    c.close_out_text.ensures.value ∙ ap length e

pub returns-clause-room_after : goal.returns-clause-room_after
returns-clause-room_after c =
    let o = c.close_out-closed in
    let n = c.accounts-wanted.result in
    let z = c.zeros-amounts in
    let wide : 4 * n ≤ length z.result = omega (arith, ap length z.ensures, length-replicate {A = ℕ} 1024 0, c.accounts-wanted.ensures) in
    let e = text-is _ _ _ _ _ _ _ z.ensures c.accounts-wanted.ensures (o.auto.room ∙ length-take-le _ _ wide) o.ensures.answer o.ensures.rows in
    c.close_out_text.ensures.room_after ∙ ap (λ t. at_start t c.args.room.now) e
