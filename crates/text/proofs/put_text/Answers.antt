-- `text::put_text` meets its contract.
use mathlib.Core.List.{List, ◌++◌, append_assoc}
use mathlib.Core.Path.{sym, ap, ◌∙◌, refl}
use Prim.Native.Nat.{ℕ, ◌+◌, ◌-◌}
use native.Mathlib.Omega.{arith}
use lib.ListN.{length, take, drop}
use lib.Seq.{sets-eq}
use borrow.Rule.Slice.PartMut.{put_mid, Post-is}
use Rattle.text.proofs.put_text.Goals as goal

pub returns : goal.returns
returns c =
    let room = c.args.room.now in
    let text = c.args.text.now in
    let at = c.args.at in
    let end = at + length text in record {
      holds = ap (put_mid at (end - at) room) c.copy_from_slice.ensures.after ∙ ap (λ (rest : List ℕ). take at room ++ (text ++ rest)) (Post-is at end room (omega arith))
          ∙ sym (append_assoc (take at room) text (drop end room)) ∙ sym (sets-eq text room at c.requires);
      next = refl;
      within = c.requires;
    }
