-- `records::go` meets its contract: `Loop` of `Turning` holds at each turn of the book that the words are.
use mathlib.Core.List.{List, [], ◌∷◌}
use mathlib.Core.Path.{◌≡◌, refl, ap, subst, ◌∙◌}
use Prim.Native.Nat.{ℕ, ◌-◌}
use native.Mathlib.Omega.{arith}
use Rattle.sums.specs.Choice.{pick}
use Rattle.sums.proofs.Choices.{pick_first, pick_second}
use Rattle.codes.specs.declared.asked.Headed.{Headed}
use Rattle.codes.specs.Asking.{HeadedAt}
use Rattle.steps.specs.Steps.{book_in}
use Rattle.records.specs.Runs.{run_of}
use Rattle.records.specs.Inner.{put_line_numbers, put_numbers_from}
use Rattle.records.proofs.Turning.{turn-ends, turn-cuts, long-cut, long-whole}
use Rattle.records.proofs.Rounds.{turn_on, line_read, step-given-few}
use Rattle.records.proofs.go.Goals as goal
use Rattle.records.proofs.go.Goals.{then-numbered, else-numbered}

less_zero : (n : ℕ) → n - 0 ≡ n
less_zero n = omega arith

-- what stands at the place, by its case
met : (s : List ℕ) (place : ℕ) {f x : Headed} → HeadedAt s place f → f ≡ x → HeadedAt s place x
met s place h e = subst (HeadedAt s place) e h

pub loop-h-init : goal.loop-h-init
loop-h-init c =
    let start = c in
    let a = start.args in (
      record {
        within = omega arith;
        fewer = omega arith;
        sound = start.requires.0.sound;
        same = refl;
        space = start.requires.1;
        runs = ap (λ n. run_of a.piece.now n (book_in a.first a.was.now a.l.now) 0 0 0) (less_zero a.most);
        numbers = ap (λ n. pick a.numbered (put_numbers_from a.piece.now n (book_in a.first a.was.now a.l.now) 0 0 a.room.now) a.room.now) (less_zero a.most);
      },
      start.requires.0,
    )

pub step_read-gone-requires : goal.step_read-gone-requires
step_read-gone-requires c =
    let w = c in
    (w.loop-h.invariant.1, (met c.args.piece.now c.loop-h.place c.head_at-found.ensures w.in-Whole.is).1)

pub put_line_numbers-requires : goal.put_line_numbers-requires
put_line_numbers-requires c =
    let s = c in
    let g = s.loop-h.invariant.0 in
    omega (arith, g.space c.if-numbered.true, g.same, s.if-most-read-2.false)

pub overflow_add-read : goal.overflow_add-read
overflow_add-read c = omega (arith, c.if-most-read-2.false, c.ranges.most.fits)

pub overflow_add-done : goal.overflow_add-done
overflow_add-done c =
    let s = c in
    omega (arith, s.loop-h.invariant.0.fewer, step-given-few s.step_read-gone.ensures, s.if-most-read-2.false, s.ranges.most.fits)

pub loop-h-smaller : goal.loop-h-smaller
loop-h-smaller c = omega (arith, c.if-most-read-2.false)

pub loop-h-preserved : goal.loop-h-preserved
loop-h-preserved c =
    let numbers-are : (let s = c in let r = s.in-Whole.h in let v = s.loop-h in
    c.if-numbered.room ≡ pick s.args.numbered (put_line_numbers v.room v.read (r.serial ∷ r.code ∷ r.account ∷ s.step_read-gone.result.refusal ∷ s.step_read-gone.result.given ∷ [])) v.room) =
    elim c.if-numbered.branch [
      | then-numbered w ↦ pick_first _ w.if-numbered.true (w.room-is ∙ w.put_line_numbers.ensures)
      | else-numbered w ↦ pick_second _ w.if-numbered.false w.room-is
    ]
    in
    let s = c in
    let e = c.on-at.ensures in
    let v = s.loop-h in
    let f = met c.args.piece.now c.loop-h.place c.head_at-found.ensures s.in-Whole.is in
    rw e (
      turn_on _ _ _ _ _ _ _ _ v.room v.at _ v.l v.place v.read v.done v.invariant.0 _ _ s.if-most-read-2.false
          f.0 _ _ s.step_read-gone.ensures _ (numbers-are ∙ line_read f.1 s.args.numbered v.room v.read s.step_read-gone.result.refusal s.step_read-gone.result.given),
      s.step_read-gone.ensures.ready,
    )

pub shape_of-room-in-End : goal.shape_of-room-in-End
shape_of-room-in-End c = c.loop-h.invariant.0.same

pub returns-in-End : goal.returns-in-End
returns-in-End c =
    let f = c in
    let v = f.loop-h in
    let x = turn-ends _ _ _ _ _ _ _ _ v.room _ v.place v.read v.done v.invariant.0 (met c.args.piece.now c.loop-h.place c.head_at-found.ensures c.in-End.is) in
    record { excess_value = x.0; going = (v.invariant.1, x.1) }

pub shape_of-room-then-most-read : goal.shape_of-room-then-most-read
shape_of-room-then-most-read c = c.loop-h.invariant.0.same

pub returns-then-most-read : goal.returns-then-most-read
returns-then-most-read c =
    let f = c in
    let v = f.loop-h in
    let x = long-cut _ _ _ _ _ _ _ _ v.room _ v.place v.read v.done v.invariant.0 c.if-most-read.true (met c.args.piece.now c.loop-h.place c.head_at-found.ensures c.in-Cut.is) in
    record { excess_value = x.0; going = (v.invariant.1, x.1) }

pub shape_of-room-else-most-read : goal.shape_of-room-else-most-read
shape_of-room-else-most-read c = c.loop-h.invariant.0.same

pub returns-else-most-read : goal.returns-else-most-read
returns-else-most-read c =
    let f = c in
    let v = f.loop-h in
    let x = turn-cuts _ _ _ _ _ _ _ _ v.room _ v.place v.read v.done v.invariant.0 c.if-most-read.false (met c.args.piece.now c.loop-h.place c.head_at-found.ensures c.in-Cut.is) in
    record { excess_value = x.0; going = (v.invariant.1, x.1) }

pub shape_of-room-then-most-read-2 : goal.shape_of-room-then-most-read-2
shape_of-room-then-most-read-2 c = c.loop-h.invariant.0.same

pub returns-then-most-read-2 : goal.returns-then-most-read-2
returns-then-most-read-2 c =
    let w = c in
    let v = w.loop-h in
    let x = long-whole _ _ _ _ _ _ _ _ v.room _ v.place v.read v.done v.invariant.0 _ _ c.if-most-read-2.true (met c.args.piece.now c.loop-h.place c.head_at-found.ensures w.in-Whole.is).0 in
    record { excess_value = x.0; going = (v.invariant.1, x.1) }
