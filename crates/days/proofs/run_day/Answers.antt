use Rattle.std.proofs.Common.{sym, ap}
use lib.Seq.{length-take-le}
use Rattle.lines.specs.declared.Lined.{Lined}
use Rattle.lines.specs.Texts.{lined_of}
use Rattle.text.proofs.Puts.{text-within-room}
use Rattle.days.proofs.run_day.Goals as goal

pub slice_bounds-room-end : goal.slice_bounds-room-end
unfolding lined_of
slice_bounds-room-end c = text-within-room _ _ _ _ (ap (λ (x : Lined). x.text) c.lines-lined.ensures.value) c.lines-lined.ensures.room_after

pub slice_bounds-write_output-end-2 : goal.slice_bounds-write_output-end-2
unfolding lined_of
slice_bounds-write_output-end-2 c = sym (length-take-le _ _ (text-within-room _ _ _ _ (ap (λ (x : Lined). x.text) c.lines-lined.ensures.value) c.lines-lined.ensures.room_after))
