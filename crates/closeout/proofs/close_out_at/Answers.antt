-- `closeout::close_out_at` meets its contract: each test says which refusal is the first.
use mathlib.Core.Path.{refl, sym, ◌∙◌, ap}
use Prim.Native.Nat.{ℕ}
use borrow.Author.Tests.{eq-eqb, ne_eqb, not-true, not-false}
use Rattle.table.specs.Words.{turned_back}
use Rattle.book.proofs.SoundTest.{sound←}
use Rattle.closeout.proofs.Answers.{refused-losses, refused-room, refused-loss, none-refused, answer-by-refusal, losses-small}
use Rattle.closeout.proofs.close_out_at.Goals as goal

pub returns-then-losses-n : goal.returns-then-losses-n
returns-then-losses-n c =
    let b = turned_back c.args.t.now in
    let e = refused-losses b c.args.losses.now c.args.room.now (sound← b c.requires) (ne_eqb _ _ c.if-losses-n.true) in
    let whole = answer-by-refusal b _ _ 15 e c.refused.ensures refl in
    record { value = whole.0; room_after = whole.1 }

pub returns-then-room-n : goal.returns-then-room-n
returns-then-room-n c =
    let b = turned_back c.args.t.now in
    let e = refused-room b c.args.losses.now c.args.room.now (sound← b c.requires) (eq-eqb _ _ c.if-losses-n.false) (ne_eqb _ _ c.if-room-n.true) in
    let whole = answer-by-refusal b _ _ 15 e c.refused-then-room-n.ensures refl in
    record { value = whole.0; room_after = whole.1 }

pub good_losses-requires : goal.good_losses-requires
good_losses-requires c = (c.if-losses-n.false, c.requires.most)

pub returns-then-not-good_losses : goal.returns-then-not-good_losses
returns-then-not-good_losses c =
    let b = turned_back c.args.t.now in
    let e = refused-loss b c.args.losses.now c.args.room.now (sound← b c.requires) (eq-eqb _ _ c.if-losses-n.false) (eq-eqb _ _ c.if-room-n.false)
    (sym c.good_losses.ensures ∙ not-true _ c.if-not-good_losses.true-raw) in
    let whole = answer-by-refusal b _ _ 16 e c.refused-then-not-good_losses.ensures refl in
    record { value = whole.0; room_after = whole.1 }

pub fill-requires : goal.fill-requires
fill-requires c = record {
  sound = c.requires;
  each = c.if-losses-n.false;
  wide = c.if-room-n.false;
  small = losses-small (turned_back c.args.t.now) _ (sym c.good_losses.ensures ∙ not-false _ c.if-not-good_losses.false-raw);
}

pub returns : goal.returns
returns c =
    let b = turned_back c.args.t.now in
    let e = none-refused b c.args.losses.now c.args.room.now (sound← b c.requires) (eq-eqb _ _ c.if-losses-n.false) (eq-eqb _ _ c.if-room-n.false)
    (sym c.good_losses.ensures ∙ not-false _ c.if-not-good_losses.false-raw) in
    let whole = answer-by-refusal b _ _ 0 e (ap (λ (t : ℕ). record { refusal = 0; total = t }) c.fill.ensures.1) c.fill.ensures.0 in
    record { value = whole.0; room_after = whole.1 }
