-- What is printed and told, put into a room.
use mathlib.Core.Bool.{true}
use mathlib.Core.List.{List, [], ◌++◌}
use mathlib.Core.Path.{◌≡◌, refl, sym, ap, ◌∙◌}
use Rattle.std.specs.Prelude.{None, Some}
use Prim.Native.Nat.{ℕ, zero, suc, ◌+◌, ◌≤◌}
use native.Mathlib.Omega.{arith}
use lib.ListN.{length, drop}
use lib.Seq.{sets, sets-eq}
use Rattle.sums.specs.Choice.{pick, unless_refused}
use Rattle.sums.specs.Room.{at_start}
use Rattle.sums.proofs.Choices.{refused-by}
use Rattle.text.specs.Inner.{Puts}
use Rattle.text.proofs.Puts.{puts_none, puts-as}
use Rattle.dayfile.specs.declared.Record.{Record}
use Rattle.dayfile.specs.declared.Wrote.TheVariants.{Written, Refused}
use Rattle.dayfile.specs.Records.{fault_of}
use Rattle.dayfile.specs.Written.{written_of, wrote_of, room_after}
use Rattle.dayfile.proofs.Good.{no-fault-good, suits-lt}
use Rattle.dayfile.proofs.Lengths.{length-written, size-most}
use Rattle.dayfile.proofs.Answers.{refused-not, write_done, refused-writer-leaves-room, wrote-all}
use Rattle.currency.specs.declared.Made.{Made}
use Rattle.margins.specs.declared.asked.Asked.{Asked}
use Rattle.margins.specs.declared.positions.Held.{Held}
use Rattle.margins.specs.Printed.{line_made, record_written, record_made, refusal_made, refused_text, bad_text, told_made, made_for, printed_for, told_for}

-- a good record fits a room of 70 bytes
fits : (r : Record) → fault_of r ≡ 0 → length (written_of r) ≤ 70
fits r f = omega (arith, length-written r f, size-most r.named (omega (arith, suits-lt r.code r.named (no-fault-good r f).suit)))

-- the writer's answer in such a room
module _ (r : Record) (room : List ℕ) (room' : List ℕ) (large : 70 ≤ length room) (after : room' ≡ room_after r room) where
  whole : record_written r ≡ written_of r → (n : ℕ) → n ≡ length (written_of r) → length (written_of r) ≤ 70 → room' ≡ at_start (written_of r) room → Puts room 0 (record_written r) room' n
  whole e n en m er =
      let start : 0 + length (written_of r) ≡ length (written_of r) = omega arith in
      let put : at_start (written_of r) room ≡ sets room 0 (written_of r) =
      sym (sets-eq (written_of r) room 0 (omega arith) ∙ ap (λ i. written_of r ++ drop i room) start) in
      puts-as (sym e) (record { holds = er ∙ put; next = en ∙ sym start; within = omega arith })

  pub put_written : (n : ℕ) → Written n ≡ wrote_of r room → Puts room 0 (record_written r) room' n
  unfolding record_written room_after
  put_written n e =
      let done = wrote-all r room n e in
      let good = refused-not r room done.0 in
      whole (rw good) n done.1 (fits r good) (after ∙ rw done.0)

  none_written : (f n : ℕ) → f ≡ fault_of r → Refused n ≡ wrote_of r room → Puts room 0 (record_written r) room' 0
  unfolding record_written
  none_written zero n ef e =
      let good = sym ef in
      let done = write_done r room good (length (written_of r)) (sets room 0 (written_of r)) refl (omega (arith, fits r good)) refl in
      let z : ◌≡◌ {A = ℕ} 0 1 = cc (done.0, e) in
      absurd (omega arith)
  none_written (suc f) n ef e =
      let kept : room' ≡ room = after ∙ refused-writer-leaves-room r room n (sym e) in
      rw (← ef, kept) (puts_none room 0 refl (omega arith))

  pub put_refused : (n : ℕ) → Refused n ≡ wrote_of r room → Puts room 0 (record_written r) room' 0
  put_refused n e = none_written (fault_of r) n refl e

pub told-refused : (n : ℕ) (made : Made) → n ≡ refusal_made made → (n ≡ 0 → ⊥) → refused_text n ≡ told_made true made
unfolding told_made pick
told-refused n made e h = refused-by n [] refused_text h ∙ ap (λ k. unless_refused k [] refused_text) e

module _ (a : Asked) (h : Held) where
  pub none-printed : (line : ℕ) → h.bad ≡ Some line → [] ≡ printed_for a h
  unfolding printed_for
  none-printed line e = rw e refl

  pub bad-told : (line : ℕ) → h.bad ≡ Some line → bad_text line ≡ told_for a h
  unfolding told_for
  bad-told line e = rw e refl

  module _ (made : Made) (good : h.bad ≡ None) (call : made ≡ made_for a h) where
    pub made-printed : pick a.«record» (record_made made) (line_made made) ≡ printed_for a h
    unfolding printed_for
    made-printed = rw (good, call)

    pub made_told : told_made a.«record» made ≡ told_for a h
    unfolding told_for
    made_told = rw (good, call)
