-- `codes::own::open` meets its contract.
use mathlib.Core.Bool.{Bool, false, not}
use mathlib.Core.Path.{◌≡◌, refl, sym, ap, ◌∙◌}
use Prim.Native.Nat.{ℕ, ◌<◌}
use native.Mathlib.Omega.{arith}
use lib.Dec.{leb}
use borrow.Author.Tests.{eq-eqb, ne_eqb, leb-false}
use Rattle.sums.proofs.Choices.{or-fails}
use Rattle.sums.specs.Choice.{pick}
use Rattle.rules.specs.Refusals.{none_left}
use Rattle.table.proofs.RowsPut.{row_put}
use Rattle.codes.proofs.Made.{first-line-holds, first-line-fails, no-line-gives-0, opened-answers, opens_not}
use borrow.Author.Rules.{rules}
use Rattle.codes.proofs.own.open.Goals as goal

-- a row is left, and a number
left-over : (count next : ℕ) {t : Bool} → t ≡ none_left count next → t ≡ false → (count < 256) × (next < 65536)
left-over count next e f = let h = or-fails (leb 256 count) (leb 65536 next) (sym e ∙ f) in (leb-false _ _ h.0, leb-false _ _ h.1)

pub returns-then-its-wanted : goal.returns-then-its-wanted
unfolding pick
returns-then-its-wanted c = (opens_not 8 (first-line-holds 8 _ _ (ap not (ne_eqb _ _ (λ z. c.if-its-wanted.true (z ∙ sym c.wanted.ensures))))) (λ z. omega arith), refl)

pub returns-then-none_left : goal.returns-then-none_left
unfolding pick
returns-then-none_left c = (
  opens_not 9
      (first-line-fails 8 _ _ 9 (ap not (eq-eqb _ _ (c.if-its-wanted.false ∙ c.wanted.ensures))) (first-line-holds 9 _ _ (sym c.none_left.ensures ∙ c.if-none_left.true)))
      (λ z. omega arith),
  refl,
)

pub put_row-requires : goal.put_row-requires
put_row-requires c = let h = left-over c.args.count c.args.next c.none_left.ensures c.if-none_left.false in search rules

pub overflow_cast-numbers : goal.overflow_cast-numbers
overflow_cast-numbers c = let h = left-over c.args.count c.args.next c.none_left.ensures c.if-none_left.false in search rules

pub offset_bounds-numbers-count : goal.offset_bounds-numbers-count
offset_bounds-numbers-count c = let h = left-over c.args.count c.args.next c.none_left.ensures c.if-none_left.false in search rules

pub bounds-numbers-count : goal.bounds-numbers-count
bounds-numbers-count c = let h = left-over c.args.count c.args.next c.none_left.ensures c.if-none_left.false in search rules

pub returns : goal.returns
unfolding pick
returns c =
    let left = c in
    let passed = left in
    let start = passed in
    let a = start.args in
    let e = c.put_row.ensures in (
      opened-answers (first-line-fails 8 _ _ 0 (ap not (eq-eqb _ _ (passed.if-its-wanted.false ∙ passed.wanted.ensures))) (first-line-fails 9 _ _ 0 (sym left.none_left.ensures ∙ left.if-none_left.false) no-line-gives-0))
          (rw (e.marks_after, e.w_after, c.opened_row.ensures) (row_put a.marks.now a.w.now a.count start.requires.0 (left-over c.args.count c.args.next c.none_left.ensures c.if-none_left.false).0 _)),
      refl,
    )
