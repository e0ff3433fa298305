-- `telling::tell` meets its contract: `Runs` and `Told` hold at each turn of the book that the words are, whatever number of records the loop is held to.
use mathlib.Core.Bool.{true, false, ◌||◌}
use mathlib.Core.List.{List}
use mathlib.Core.Logic.{inl, inr, ⊎_elim}
use mathlib.Core.Path.{◌≡◌, refl, subst}
use Prim.Native.Nat.{ℕ, zero, suc, ◌-◌, ◌+◌, ◌≤◌, ◌<◌}
use native.Mathlib.Omega.{arith}
use lib.Dec.{leb, ltb}
use lib.ListN.{length}
use borrow.Author.Tests.{leb-true, leb-false, ltb-true, ltb-false}
use Rattle.sums.proofs.Choices.{or-fails, or_split}
use Rattle.codes.specs.declared.asked.Headed.{Headed}
use Rattle.codes.specs.Asking.{HeadedAt}
use Rattle.records.proofs.Turning.{turn-ends, turn-cuts, long-cut, long-whole}
use Rattle.records.proofs.Closings.{end-long, cut-long}
use Rattle.records.proofs.Rounds.{step-given-few}
use Rattle.text.proofs.Puts.{puts-length}
use Rattle.telling.proofs.Telling.{nothing-told, all_told, begun, sound-at, goes}
use Rattle.telling.proofs.tell.Goals as goal

-- another record may be read, and the room has space for its line
room-left : (most read put room : ℕ) → (leb most read || ltb (room - 147) put) ≡ false → 147 ≤ room → (read < most) × (put + 147 ≤ room)
room-left most read put room e r =
    let h = or-fails (leb most read) (ltb (room - 147) put) e in
    (leb-false most read h.0, omega (arith, ltb-false (room - 147) put h.1))

-- what stands at the place, by its case
met : (s : List ℕ) (place : ℕ) {f x : Headed} → HeadedAt s place f → f ≡ x → HeadedAt s place x
met s place h e = subst (HeadedAt s place) e h

pub loop-h-init : goal.loop-h-init
loop-h-init c =
    let p = c.requires in
    (begun _ _ p.0.sound, p.0, nothing-told _ _ _ _, omega arith)

pub step_read-gone-requires : goal.step_read-gone-requires
step_read-gone-requires c =
    let w = c in
    (w.loop-h.invariant.1, (met c.args.piece.now c.loop-h.place c.head_at-found.ensures w.in-Whole.is).1)

pub put_told-put-requires : goal.put_told-put-requires
put_told-put-requires c =
    let o = c in
    let s = o in
    (sound-at s.step_read-gone.ensures.ready o.on-at.ensures, s.requires.1, omega (arith, (room-left c.args.most c.loop-h.read c.loop-h.put (length c.args.text.now) c.if-most-read-2.false c.requires.2).1, puts-length c.loop-h.invariant.2.puts))

pub overflow_add-read : goal.overflow_add-read
overflow_add-read c =
    let s = c in omega (arith, (room-left c.args.most c.loop-h.read c.loop-h.put (length c.args.text.now) c.if-most-read-2.false c.requires.2).0, s.ranges.most.fits)

pub overflow_add-done : goal.overflow_add-done
overflow_add-done c =
    let s = c in
    omega (arith, (s.loop-h.invariant.0 s.loop-h.read (omega arith)).fewer, step-given-few s.step_read-gone.ensures, (room-left c.args.most c.loop-h.read c.loop-h.put (length c.args.text.now) c.if-most-read-2.false c.requires.2).0, s.ranges.most.fits)

pub loop-h-smaller : goal.loop-h-smaller
loop-h-smaller c =
    omega (arith, (room-left c.args.most c.loop-h.read c.loop-h.put (length c.args.text.now) c.if-most-read-2.false c.requires.2).0)

pub loop-h-preserved : goal.loop-h-preserved
loop-h-preserved c =
    let p = c in
    let o = p in
    let s = o in
    let v = s.loop-h in
    let f = met c.args.piece.now c.loop-h.place c.head_at-found.ensures s.in-Whole.is in
    let g = goes s.args.explained v.invariant.0 v.invariant.2 f.1 _ f.0 s.step_read-gone.ensures _ _ _ o.on-at.ensures p.put_told-put.ensures in
    (g.0, g.1, g.2, omega (arith, (room-left c.args.most c.loop-h.read c.loop-h.put (length c.args.text.now) c.if-most-read-2.false c.requires.2).0))

pub shape_of-text-in-End : goal.shape_of-text-in-End
shape_of-text-in-End c = puts-length c.loop-h.invariant.2.puts

pub returns-in-End : goal.returns-in-End
returns-in-End c =
    let f = c in
    let v = f.loop-h in
    let n = f.args.most in
    let e = met c.args.piece.now c.loop-h.place c.head_at-found.ensures c.in-End.is in
    record { excess_value = (turn-ends _ _ _ _ _ _ _ _ _ _ v.place v.read v.done (v.invariant.0 n v.invariant.3) e).0; going = v.invariant.1; puts = all_told _ _ _ _ v.invariant.2 n v.invariant.3 (inr (inl e)); read_le_most = (v.invariant.3, λ l m. end-long l) }

pub shape_of-text-then-most-read : goal.shape_of-text-then-most-read
shape_of-text-then-most-read c = puts-length c.loop-h.invariant.2.puts

pub returns-then-most-read : goal.returns-then-most-read
returns-then-most-read c =
    let f = c in
    let v = f.loop-h in
    let e = met c.args.piece.now c.loop-h.place c.head_at-found.ensures c.in-Cut.is in
    record { excess_value = (long-cut _ _ _ _ _ _ _ _ _ _ v.place v.read v.done (v.invariant.0 v.read (omega arith)) (omega arith) e).0; going = v.invariant.1; puts = all_told _ _ _ _ v.invariant.2 v.read (omega arith) (inl (omega arith)); read_le_most = (v.invariant.3, λ l m. omega (arith, c.if-most-read.true)) }

pub shape_of-text-else-most-read : goal.shape_of-text-else-most-read
shape_of-text-else-most-read c = puts-length c.loop-h.invariant.2.puts

pub returns-else-most-read : goal.returns-else-most-read
returns-else-most-read c =
    let f = c in
    let v = f.loop-h in
    let n = f.args.most in
    let e = met c.args.piece.now c.loop-h.place c.head_at-found.ensures c.in-Cut.is in
    record { excess_value = (turn-cuts _ _ _ _ _ _ _ _ _ _ v.place v.read v.done (v.invariant.0 n v.invariant.3) c.if-most-read.false e).0; going = v.invariant.1; puts = all_told _ _ _ _ v.invariant.2 n v.invariant.3 (inr (inr e)); read_le_most = (v.invariant.3, λ l m. cut-long l) }

pub shape_of-text-then-most-read-2 : goal.shape_of-text-then-most-read-2
shape_of-text-then-most-read-2 c = puts-length c.loop-h.invariant.2.puts

pub returns-then-most-read-2 : goal.returns-then-most-read-2
returns-then-most-read-2 c =
    let w = c in
    let t = w in
    let v = t.loop-h in
    record { excess_value = (long-whole _ _ _ _ _ _ _ _ _ _ v.place v.read v.done (v.invariant.0 v.read (omega arith)) _ _ (omega arith) (met c.args.piece.now c.loop-h.place c.head_at-found.ensures w.in-Whole.is).0).0; going = v.invariant.1; puts = all_told _ _ _ _ v.invariant.2 v.read (omega arith) (inl (omega arith)); read_le_most = (v.invariant.3, λ l. some_read c.if-most-read-2.true) }
  where
    by : (n : ℕ) → c.loop-h.read ≡ n → length c.args.text.now - 147 < c.loop-h.put → 0 < c.loop-h.read
    by zero q l = absurd (omega (arith, c.loop-h.invariant.2.none q))
    by (suc n) q l = omega arith

    some_read : (leb c.args.most c.loop-h.read || ltb (length c.args.text.now - 147) c.loop-h.put) ≡ true → 0 < c.args.most → 0 < c.loop-h.read
    some_read e m =
        ⊎_elim (λ h. omega (arith, leb-true c.args.most c.loop-h.read h)) (λ h. by c.loop-h.read refl (ltb-true (length c.args.text.now - 147) c.loop-h.put h))
        (or_split (leb c.args.most c.loop-h.read) _ e)
