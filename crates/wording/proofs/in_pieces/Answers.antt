use Rattle.std.proofs.Common.{refl, sym, ◌∙◌, arith}
use lib.Seq.{length-take-le}
use Rattle.wording.proofs.Sofar.{piece-of, put-within, shown-now, begun, failed-came, place-within, lines-few, bad-came, end-came, long-came, goes_on}
use Rattle.wording.proofs.in_pieces.Goals as goal

pub loop-turns-init : goal.loop-turns-init
loop-turns-init c =
    (begun _ _ _ _ (sym c.blank-space.ensures), refl)

pub returns-then-got : goal.returns-then-got
returns-then-got c =
    failed-came c.no_words.ensures

pub slice_bounds-room-end : goal.slice_bounds-room-end
slice_bounds-room-end c =
    let p = piece-of c.loop-turns.invariant.0 c.refill-got.new.space c.loop-turns.room c.refill-got.result c.take_in-taken.result c.refill-got.ensures.count_in_bounds c.refill-got.ensures.space_unchanged c.refill-got.ensures.bytes c.refill-got.auto.space c.loop-turns.invariant.1 c.take_in-taken.ensures.value in
    put-within p c.shown-n.result c.loop-turns.room c.take_in-taken.new.room c.shown-n.ensures c.take_in-taken.ensures.room_after

pub slice_bounds-write_output-end : goal.slice_bounds-write_output-end
slice_bounds-write_output-end c =
    let p = piece-of c.loop-turns.invariant.0 c.refill-got.new.space c.loop-turns.room c.refill-got.result c.take_in-taken.result c.refill-got.ensures.count_in_bounds c.refill-got.ensures.space_unchanged c.refill-got.ensures.bytes c.refill-got.auto.space c.loop-turns.invariant.1 c.take_in-taken.ensures.value in
    let f = put-within p c.shown-n.result c.loop-turns.room c.take_in-taken.new.room c.shown-n.ensures c.take_in-taken.ensures.room_after in
    sym (length-take-le c.shown-n.result c.take_in-taken.new.room f)

pub returns-then-put : goal.returns-then-put
returns-then-put c =
    failed-came c.no_words-then-put.ensures

pub overflow_add-lines : goal.overflow_add-lines
overflow_add-lines c =
    let p = piece-of c.loop-turns.invariant.0 c.refill-got.new.space c.loop-turns.room c.refill-got.result c.take_in-taken.result c.refill-got.ensures.count_in_bounds c.refill-got.ensures.space_unchanged c.refill-got.ensures.bytes c.refill-got.auto.space c.loop-turns.invariant.1 c.take_in-taken.ensures.value in
    record { fits = omega (arith, p.before.few, lines-few p, c.loop-turns-test.true) }

pub overflow_add-lines-then-taken-ne0 : goal.overflow_add-lines-then-taken-ne0
overflow_add-lines-then-taken-ne0 c =
    let p = piece-of c.loop-turns.invariant.0 c.refill-got.new.space c.loop-turns.room c.refill-got.result c.take_in-taken.result c.refill-got.ensures.count_in_bounds c.refill-got.ensures.space_unchanged c.refill-got.ensures.bytes c.refill-got.auto.space c.loop-turns.invariant.1 c.take_in-taken.ensures.value in
    record { fits = omega (arith, p.before.few, lines-few p, c.loop-turns-test.true) }

pub returns-then-taken-ne0 : goal.returns-then-taken-ne0
returns-then-taken-ne0 c =
    let p = piece-of c.loop-turns.invariant.0 c.refill-got.new.space c.loop-turns.room c.refill-got.result c.take_in-taken.result c.refill-got.ensures.count_in_bounds c.refill-got.ensures.space_unchanged c.refill-got.ensures.bytes c.refill-got.auto.space c.loop-turns.invariant.1 c.take_in-taken.ensures.value in
    bad-came p c.if-taken-ne0.true _ c.bad_line.ensures

pub returns-then-ended-taken : goal.returns-then-ended-taken
returns-then-ended-taken c =
    let p = piece-of c.loop-turns.invariant.0 c.refill-got.new.space c.loop-turns.room c.refill-got.result c.take_in-taken.result c.refill-got.ensures.count_in_bounds c.refill-got.ensures.space_unchanged c.refill-got.ensures.bytes c.refill-got.auto.space c.loop-turns.invariant.1 c.take_in-taken.ensures.value in
    let f = put-within p c.shown-n.result c.loop-turns.room c.take_in-taken.new.room c.shown-n.ensures c.take_in-taken.ensures.room_after in
    end-came p c.if-taken-ne0.false c.if-ended-taken.true _ (shown-now p c.write_output-put.result c.shown-n.result c.take_in-taken.new.room f c.shown-n.ensures c.write_output-put.ensures.count_in_bounds c.write_output-put.ensures.failed_value c.if-put.false)

pub overflow_add-lines-then-spelling-ended : goal.overflow_add-lines-then-spelling-ended
overflow_add-lines-then-spelling-ended c =
    let p = piece-of c.loop-turns.invariant.0 c.refill-got.new.space c.loop-turns.room c.refill-got.result c.take_in-taken.result c.refill-got.ensures.count_in_bounds c.refill-got.ensures.space_unchanged c.refill-got.ensures.bytes c.refill-got.auto.space c.loop-turns.invariant.1 c.take_in-taken.ensures.value in
    record { fits = omega (arith, p.before.few, lines-few p, c.loop-turns-test.true) }

pub returns-then-spelling-ended : goal.returns-then-spelling-ended
returns-then-spelling-ended c =
    let p = piece-of c.loop-turns.invariant.0 c.refill-got.new.space c.loop-turns.room c.refill-got.result c.take_in-taken.result c.refill-got.ensures.count_in_bounds c.refill-got.ensures.space_unchanged c.refill-got.ensures.bytes c.refill-got.auto.space c.loop-turns.invariant.1 c.take_in-taken.ensures.value in
    long-came p c.if-taken-ne0.false c.if-spelling-ended.true _ c.bad_line-then-spelling-ended.ensures

pub to_front-rest-requires : goal.to_front-rest-requires
to_front-rest-requires c =
    let p = piece-of c.loop-turns.invariant.0 c.refill-got.new.space c.loop-turns.room c.refill-got.result c.take_in-taken.result c.refill-got.ensures.count_in_bounds c.refill-got.ensures.space_unchanged c.refill-got.ensures.bytes c.refill-got.auto.space c.loop-turns.invariant.1 c.take_in-taken.ensures.value in
    (place-within p, c.refill-got.ensures.count_in_bounds)

pub loop-turns-preserved : goal.loop-turns-preserved
loop-turns-preserved c =
    let p = piece-of c.loop-turns.invariant.0 c.refill-got.new.space c.loop-turns.room c.refill-got.result c.take_in-taken.result c.refill-got.ensures.count_in_bounds c.refill-got.ensures.space_unchanged c.refill-got.ensures.bytes c.refill-got.auto.space c.loop-turns.invariant.1 c.take_in-taken.ensures.value in
    let f = put-within p c.shown-n.result c.loop-turns.room c.take_in-taken.new.room c.shown-n.ensures c.take_in-taken.ensures.room_after in
    let w = length-take-le c.shown-n.result c.take_in-taken.new.room f in
    let z = c.take_in-taken.auto.room ∙ c.loop-turns.invariant.1 in
    let t = c.to_front-rest in
    (goes_on p c.if-taken-ne0.false _ (shown-now p c.write_output-put.result c.shown-n.result c.take_in-taken.new.room f c.shown-n.ensures c.write_output-put.ensures.count_in_bounds c.write_output-put.ensures.failed_value c.if-put.false) (omega (arith, c.write_output-put.ensures.count_in_bounds, w, f, z)) _ _ (t.auto.space ∙ p.size) t.ensures.value t.ensures.space_after, z)

pub returns : goal.returns
returns c =
    failed-came c.no_words-2.ensures
