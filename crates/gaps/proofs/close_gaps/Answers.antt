-- `gaps::close_gaps` meets its contract. The invariant: the rows passed are closed up, and the rest is as it was.
use mathlib.Core.Path.{◌≡◌, refl}
use Prim.Native.Nat.{◌<◌}
use native.Mathlib.Omega.{arith}
use Rattle.sums.proofs.Sums.{only-most}
use Rattle.gaps.proofs.Passing.{Going, going_start, going_on, going_end, place-low, tm-inside, one_if}
use Rattle.gaps.specs.Inner.{Closable}
use Rattle.gaps.proofs.close_gaps.Goals as goal

-- the row that comes next and its place are inside
inside : {b : _} {i k : _} {t : _} {to : _} → Closable b → i < b.count → Going b i k t to → (i < 256) × (k < 256)
inside p l g = (omega (arith, p.most), omega (arith, p.most, place-low g))

pub loop-i-init : goal.loop-i-init
loop-i-init c = going_start _ c.requires.sized

pub offset_bounds-to-i : goal.offset_bounds-to-i
offset_bounds-to-i c = omega (arith, c.requires.closable.most)

pub bounds-to-i : goal.bounds-to-i
bounds-to-i c = omega (arith, c.requires.closable.most)

pub slide_row-kept-requires : goal.slide_row-kept-requires
slide_row-kept-requires c =
    let g = c.loop-i.invariant in
    let h = inside c.requires.closable c.loop-i-test.true g in (g.size, h.0, h.1, tm-inside _ c.requires.closable c.loop-i-test.true g)

pub slide-requires : goal.slide-requires
slide-requires c =
    let h = inside c.requires.closable c.loop-i-test.true c.loop-i.invariant in (omega arith, (omega (arith, h.0, h.1), omega (arith, h.0, h.1)))

pub slide-requires-in-loop-i : goal.slide-requires-in-loop-i
slide-requires-in-loop-i c =
    let h = inside c.requires.closable c.loop-i-test.true c.loop-i.invariant in (omega arith, (omega (arith, h.0, h.1), omega (arith, h.0, h.1)))

pub slide-requires-in-loop-i-2 : goal.slide-requires-in-loop-i-2
slide-requires-in-loop-i-2 c =
    let h = inside c.requires.closable c.loop-i-test.true c.loop-i.invariant in (omega arith, (omega (arith, h.0, h.1), omega (arith, h.0, h.1)))

pub overflow_add-k : goal.overflow_add-k
overflow_add-k c =
    let kept = c.slide_row-kept.result in
    let h = inside c.requires.closable c.loop-i-test.true c.loop-i.invariant in omega (arith, h.1, c.from-k.ensures, one_if kept, only-most kept 1)

pub loop-i-preserved : goal.loop-i-preserved
loop-i-preserved c =
    going_on _ c.requires.closable c.loop-i-test.true c.loop-i.invariant c.slide_row-kept.ensures c.slide.ensures c.slide-in-loop-i.ensures
    c.slide-in-loop-i-2.ensures refl refl (omega (arith, c.from-k.ensures, one_if c.slide_row-kept.result))

pub returns : goal.returns
returns c =
    let l = c.loop-i in
    let e : l.i ≡ c.args.t.now.count = omega (arith, c.loop-i-test.false) in
    record { sized_2 = l.invariant.size; numbers_after = going_end _ c.requires.closable (rw e at l.invariant) }
