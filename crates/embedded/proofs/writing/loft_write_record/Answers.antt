-- `embedded::writing::loft_write_record` meets its contract.
use mathlib.Core.Bool.{true}
use mathlib.Core.Path.{◌≡◌, refl, sym, ap, ◌∙◌}
use native.Mathlib.Omega.{arith}
use borrow.Author.Tests.{eq-eqb, ne_eqb}
use Rattle.sums.proofs.Choices.{pick_first, pick_second}
use Rattle.dayfile.specs.Written.{wrote_of, refusal_wrote, room_after}
use Rattle.dayfile.proofs.Answers.{wrote-all}
use Rattle.embedded.specs.Records.{record_of}
use Rattle.embedded.specs.Writing.{are_six, write_refusal, write_room, write_length}
use Rattle.lent.proofs.Refused.{stays, given}
use Rattle.embedded.proofs.Wrote.{refused-with}
use Rattle.embedded.proofs.writing.loft_write_record.Goals as goal

pub returns-then-amounts-ne6 : goal.returns-then-amounts-ne6
unfolding write_refusal write_room write_length
returns-then-amounts-ne6 c =
    let no = ne_eqb _ _ c.if-amounts-ne6.true in
    let n = pick_second _ no refl in
    record { value = n; room_after = pick_second _ no refl; length_after = stays _ _ n (λ q. omega arith) }

pub returns-in-Refused : goal.returns-in-Refused
unfolding write_refusal write_room write_length
returns-in-Refused c =
    let six : are_six c.args.amounts.now ≡ true =
    eq-eqb _ _ c.if-amounts-ne6.false
    in
    let wrote : c.write-wrote.result ≡ wrote_of (record_of c.args.serial c.args.code c.args.named c.args.account c.args.amounts.now) c.args.room.now =
    c.write-wrote.ensures.value.0 ∙ ap (λ r. wrote_of r c.args.room.now) c.record_of.ensures
    in
    let left : room_after c.record_of.result c.args.room.now
    ≡ room_after (record_of c.args.serial c.args.code c.args.named c.args.account c.args.amounts.now) c.args.room.now =
    ap (λ r. room_after r c.args.room.now) c.record_of.ensures
    in
    let d = c in
    let w = sym c.in-Refused.is ∙ wrote in
    let n = pick_first 15 six (ap refusal_wrote w) in
    record { value = n; room_after = pick_first _ six (d.write-wrote.ensures.room_after ∙ left); length_after = stays _ _ n (refused-with _ _ _ w) }

pub returns-in-Written : goal.returns-in-Written
unfolding write_refusal write_room write_length
returns-in-Written c =
    let six : are_six c.args.amounts.now ≡ true =
    eq-eqb _ _ c.if-amounts-ne6.false
    in
    let wrote : c.write-wrote.result ≡ wrote_of (record_of c.args.serial c.args.code c.args.named c.args.account c.args.amounts.now) c.args.room.now =
    c.write-wrote.ensures.value.0 ∙ ap (λ r. wrote_of r c.args.room.now) c.record_of.ensures
    in
    let left : room_after c.record_of.result c.args.room.now
    ≡ room_after (record_of c.args.serial c.args.code c.args.named c.args.account c.args.amounts.now) c.args.room.now =
    ap (λ r. room_after r c.args.room.now) c.record_of.ensures
    in
    let d = c in
    let w = sym c.in-Written.is ∙ wrote in
    let n = pick_first 15 six (ap refusal_wrote w) in
    record { value = n; room_after = pick_first _ six (d.write-wrote.ensures.room_after ∙ left); length_after = given _ (sym n) (wrote-all _ _ _ w).1 }
