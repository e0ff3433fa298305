use Rattle.std.proofs.Common.{ℕ, ◌≤◌, sym, ◌∙◌, arith}
use lib.ListN.{length-replicate}
use Rattle.sums.specs.Choice.{pick}
use Rattle.sums.proofs.Choices.{or-fails}
use borrow.Author.Rules.{rules}
use Rattle.table.specs.Facts.{Sized}
use Rattle.table.proofs.Turning.{turned-from}
use Rattle.book.proofs.SoundTest.{sound←}
use Rattle.steps.proofs.Entering.{enterable, sound-enters}
use Rattle.text.proofs.Puts.{puts-length, puts-at-start}
use Rattle.records.proofs.NumbersPut.{ran-sound}
use Rattle.streams.proofs.Taken.{all-taken}
use Rattle.feed.specs.Inner.{turn_takes}
use Rattle.feed.proofs.TurnText.{takes-some, no_length}
use Rattle.feed.proofs.Feeding.{piece-of, came-over, nothing_read, no-day-came, read-upto, last-turn-came, turn-fed, turn-reads-some, place-within, read-within, done-within}
use Rattle.feed.proofs.in_turns.Goals as goal

pub enter-at-requires : goal.enter-at-requires
enter-at-requires c = enterable _ c.requires record { sorts = search rules; lives = search rules; tms = search rules; words = search rules }

pub loop-space-init : goal.loop-space-init
loop-space-init c =
    let sized : Sized c.args.t.marks c.args.t.amounts = record { sorts = search rules; lives = search rules; tms = search rules; words = search rules } in
    let h = (sound-enters _ c.requires sized c.enter-at.ensures.at c.enter-at.ensures.enters).0 in
    (nothing_read c.args.printing c.args.explained _ _ (sound← _ h.sound) (sym c.blank-space.ensures), h, length-replicate {A = ℕ} 16384 0)

pub overflow_sub-read : goal.overflow_sub-read
overflow_sub-read c =
    read-upto c.loop-space.invariant.0

pub hand_over-put-requires : goal.hand_over-put-requires
hand_over-put-requires c =
    let t = c.carry_on-told in
    (omega (arith, t.ensures.puts.within, puts-length t.ensures.puts), λ e. (puts-at-start t.ensures.puts).0 ∙ no_length _ _ _ e _)

pub returns-then-got-put : goal.returns-then-got-put
unfolding pick
returns-then-got-put c =
    let sized : Sized c.args.t.marks c.args.t.amounts = record { sorts = search rules; lives = search rules; tms = search rules; words = search rules } in
    came-over c.args.printing c.args.explained (sound-enters _ c.requires sized c.enter-at.ensures.at c.enter-at.ensures.enters).1 (no-day-came _ _ _ c.loop-space.invariant.0.sound c.no_day.ensures)

pub overflow_add-read : goal.overflow_add-read
overflow_add-read c =
    let l = c.loop-space in
    let f = c.refill_input-got in
    let t = c.carry_on-told in
    let w = t.result.went in
    let p = piece-of l.invariant.0 f.new.space f.result (turn_takes w.closing w.read) _ f.ensures.count_in_bounds f.ensures.space_unchanged f.ensures.bytes.0 f.auto.space (takes-some w.closing w.read)
    (t.ensures.excess_value ∙ ran-sound _ _ _ (sound← _ l.invariant.1.sound)) in
    record { fits = omega (arith, read-within p) }

pub overflow_add-done : goal.overflow_add-done
overflow_add-done c =
    let l = c.loop-space in
    let f = c.refill_input-got in
    let t = c.carry_on-told in
    let w = t.result.went in
    let p = piece-of l.invariant.0 f.new.space f.result (turn_takes w.closing w.read) _ f.ensures.count_in_bounds f.ensures.space_unchanged f.ensures.bytes.0 f.auto.space (takes-some w.closing w.read)
    (t.ensures.excess_value ∙ ran-sound _ _ _ (sound← _ l.invariant.1.sound)) in
    record { fits = omega (arith, read-within p, done-within p) }

pub overflow_add-printed : goal.overflow_add-printed
overflow_add-printed c =
    let l = c.loop-space in
    let f = c.refill_input-got in
    let t = c.carry_on-told in
    let w = t.result.went in
    let p = piece-of l.invariant.0 f.new.space f.result (turn_takes w.closing w.read) _ f.ensures.count_in_bounds f.ensures.space_unchanged f.ensures.bytes.0 f.auto.space (takes-some w.closing w.read)
    (t.ensures.excess_value ∙ ran-sound _ _ _ (sound← _ l.invariant.1.sound)) in
    let size = puts-length t.ensures.puts ∙ l.invariant.2 in
    let h = c.hand_over-put in
    let few : h.result.count ≤ 16384 = omega (arith, h.ensures.0, t.ensures.puts.within, size) in
    record { fits = omega (arith, p.before.few, read-upto p.before, few) }

pub to_front-rest-requires : goal.to_front-rest-requires
to_front-rest-requires c =
    let l = c.loop-space in
    let f = c.refill_input-got in
    let t = c.carry_on-told in
    let w = t.result.went in
    let p = piece-of l.invariant.0 f.new.space f.result (turn_takes w.closing w.read) _ f.ensures.count_in_bounds f.ensures.space_unchanged f.ensures.bytes.0 f.auto.space (takes-some w.closing w.read)
    (t.ensures.excess_value ∙ ran-sound _ _ _ (sound← _ l.invariant.1.sound)) in
    (place-within p, f.ensures.count_in_bounds)

pub loop-space-smaller : goal.loop-space-smaller
loop-space-smaller c =
    let l = c.loop-space in
    let f = c.refill_input-got in
    let t = c.carry_on-told in
    let w = t.result.went in
    let p = piece-of l.invariant.0 f.new.space f.result (turn_takes w.closing w.read) _ f.ensures.count_in_bounds f.ensures.space_unchanged f.ensures.bytes.0 f.auto.space (takes-some w.closing w.read)
    (t.ensures.excess_value ∙ ran-sound _ _ _ (sound← _ l.invariant.1.sound)) in
    omega (arith, turn-reads-some p c.stops.result c.stops.ensures c.if-stops.false, read-within p)

pub loop-space-preserved : goal.loop-space-preserved
loop-space-preserved c =
    let l = c.loop-space in
    let f = c.refill_input-got in
    let t = c.carry_on-told in
    let w = t.result.went in
    let p = piece-of l.invariant.0 f.new.space f.result (turn_takes w.closing w.read) _ f.ensures.count_in_bounds f.ensures.space_unchanged f.ensures.bytes.0 f.auto.space (takes-some w.closing w.read)
    (t.ensures.excess_value ∙ ran-sound _ _ _ (sound← _ l.invariant.1.sound)) in
    let size = puts-length t.ensures.puts ∙ l.invariant.2 in
    let h = c.hand_over-put in
    let few : h.result.count ≤ 16384 = omega (arith, h.ensures.0, t.ensures.puts.within, size) in
    let shown = all-taken h.result _ h.ensures.0 h.ensures.1 (or-fails f.result.failed h.result.failed c.if-got-put.false).1 ∙ (puts-at-start t.ensures.puts).0 in
    let some = turn-reads-some p c.stops.result c.stops.ensures c.if-stops.false in
    let k = c.to_front-rest in
    (turn-fed p _ shown few some _ _ (k.auto.space ∙ p.size) k.ensures.value k.ensures.space_after, t.ensures.going, size)

pub returns : goal.returns
unfolding pick
returns c =
    let l = c.loop-space in
    let f = c.refill_input-got in
    let t = c.carry_on-told in
    let w = t.result.went in
    let p = piece-of l.invariant.0 f.new.space f.result (turn_takes w.closing w.read) _ f.ensures.count_in_bounds f.ensures.space_unchanged f.ensures.bytes.0 f.auto.space (takes-some w.closing w.read)
    (t.ensures.excess_value ∙ ran-sound _ _ _ (sound← _ l.invariant.1.sound)) in
    let size = puts-length t.ensures.puts ∙ l.invariant.2 in
    let h = c.hand_over-put in
    let few : h.result.count ≤ 16384 = omega (arith, h.ensures.0, t.ensures.puts.within, size) in
    let shown = all-taken h.result _ h.ensures.0 h.ensures.1 (or-fails f.result.failed h.result.failed c.if-got-put.false).1 ∙ (puts-at-start t.ensures.puts).0 in
    let sized : Sized c.args.t.marks c.args.t.amounts = record { sorts = search rules; lives = search rules; tms = search rules; words = search rules } in
    let left : Sized c.leave-table.result.marks c.leave-table.result.amounts = record { sorts = search rules; lives = search rules; tms = search rules; words = search rules } in
    came-over c.args.printing c.args.explained (sound-enters _ c.requires sized c.enter-at.ensures.at c.enter-at.ensures.enters).1
    (last-turn-came p _ shown _ c.stops.result c.stops.ensures c.if-stops.true _ (sym (turned-from _ _ left c.leave-table.ensures)))
