-- `book::sound::numbers_sound` meets its contract. The invariant: the flag is the test of the places passed, and the number of the last of them is at hand.
use mathlib.Core.Bool.{Bool, ◌&&◌}
use mathlib.Core.Path.{◌≡◌, refl, sym, ap, ◌∙◌}
use Prim.Native.Nat.{ℕ, ◌-◌}
use native.Mathlib.Omega.{arith}
use lib.ListN.{get_or, length}
use borrow.Author.Rules.{rules}
use borrow.Author.Tests.{lt-leb, le-leb, eq-eqb}
use Rattle.sums.specs.Sum.{all}
use Rattle.sums.proofs.Sums.{all_none, all-step}
use Rattle.book.specs.Sound.{good_number, numbers_sound}
use Rattle.book.proofs.sound.numbers_sound.Goals as goal

pub returns-then-next-gt65536 : goal.returns-then-next-gt65536
unfolding numbers_sound
returns-then-next-gt65536 c = simp (lt-leb c.args.next 65536 c.if-next-gt65536.true)

pub loop-i-init : goal.loop-i-init
loop-i-init c =
    let good : ℕ → Bool =
    λ j. good_number c.args.count c.args.next j (get_or c.args.numbers.now (j - 1) 0) (get_or c.args.numbers.now j 0)
    in (refl, sym (all_none good))

pub loop-i-preserved : goal.loop-i-preserved
loop-i-preserved c =
    let good : ℕ → Bool =
    λ j. good_number c.args.count c.args.next j (get_or c.args.numbers.now (j - 1) 0) (get_or c.args.numbers.now j 0)
    in
    let at = c in
    let start = at in
    let i = at.loop-i.i in (
      ap (λ (k : ℕ). get_or start.args.numbers.now k 0) (omega arith),
      ap (λ x. x && c.good_number-ok.result) at.loop-i.invariant.1
          ∙ ap (λ x. all i good && x) (c.good_number-ok.ensures
          ∙ ap (λ (k : ℕ). good_number start.args.count start.args.next i k (get_or start.args.numbers.now i 0)) at.loop-i.invariant.0)
          ∙ sym (all-step i good),
    )

pub returns : goal.returns
unfolding numbers_sound
returns c =
    let wide : length c.args.numbers.now ≡ 256 =
    search rules
    in
    let good : ℕ → Bool =
    λ j. good_number c.args.count c.args.next j (get_or c.args.numbers.now (j - 1) 0) (get_or c.args.numbers.now j 0)
    in
    let at = c in
    let start = at in
    simp (le-leb start.args.next 65536 at.if-next-gt65536.false, eq-eqb _ 256 wide)
    (at.loop-i.invariant.1 ∙ ap (λ (k : ℕ). all k good) (omega arith))

pub offset_bounds-numbers-i : goal.offset_bounds-numbers-i
offset_bounds-numbers-i c = omega arith

pub bounds-numbers-i : goal.bounds-numbers-i
bounds-numbers-i c = omega arith
