-- `book::sound::table_kept` meets its contract: number, rows, modes, numbers, kept needs, in this order. Rows that have passed keep the sums behind needs within a word.
use mathlib.Core.Bool.{Bool, true, false, not, and-false}
use mathlib.Core.List.{[]}
use mathlib.Core.Path.{◌≡◌, sym, ap, subst, ◌∙◌}
use Prim.Native.Nat.{◌≤◌, ◌<◌}
use native.Mathlib.Omega.{arith}
use lib.Dec.{eqb}
use borrow.Author.Tests.{lt-leb, le-leb, eq-eqb, not-true, not-false}
use Rattle.sums.specs.Sum.{all}
use Rattle.sums.proofs.Sums.{all-at}
use Rattle.rows.specs.declared.Rule.TheVariants.{New}
use Rattle.rows.specs.Facts.{Shaped, NoneBeyond}
use Rattle.rows.specs.KeptNeeds.{all_kept}
use Rattle.table.specs.declared.Table.{Table}
use Rattle.table.specs.Words.{book_from, turned_back}
use Rattle.table.proofs.Gathered.{rows-length}
use Rattle.book.specs.Sound.{row_sound, formed_b}
use Rattle.book.proofs.RowTests.{rows-ranged}
use Rattle.book.proofs.SoundTest.{shaped-rows, blank-beyond}
use Rattle.book.proofs.ByRule.{shaped-by}
use Rattle.book.proofs.SoundInPlace.{rows-in-table, modes-in-table}
use Rattle.book.proofs.SeenTable.{seen-by, seen-within}
use Rattle.book.proofs.sound.table_kept.Goals as goal

-- what rows that have passed show
rows-hold : (t : Table) {x : Bool} → x ≡ all 256 (row_sound (book_from t.count 0 t.marks t.amounts [] [] 0 [])) → not x ≡ false → all 256 (row_sound (turned_back t)) ≡ true
rows-hold t e h = sym (e ∙ rows-in-table t) ∙ not-false _ h

pub returns-then-t-lt1 : goal.returns-then-t-lt1
unfolding formed_b
returns-then-t-lt1 c = simp (lt-leb 1 c.args.t.now.count c.if-t-lt1.true)

pub returns-then-t-gt256 : goal.returns-then-t-gt256
unfolding formed_b
returns-then-t-gt256 c = simp (lt-leb c.args.t.now.count 256 c.if-t-gt256.true, and-false)

pub returns-then-not-rows_sound : goal.returns-then-not-rows_sound
unfolding formed_b
returns-then-not-rows_sound c =
    simp (sym (c.rows_sound.ensures ∙ rows-in-table c.args.t.now) ∙ not-true _ c.if-not-rows_sound.true-raw, and-false)

pub returns-then-not-modes_sound : goal.returns-then-not-modes_sound
unfolding formed_b
returns-then-not-modes_sound c =
    simp (sym (c.modes_sound.ensures ∙ modes-in-table c.args.t.now) ∙ not-true _ c.if-not-modes_sound.true-raw, and-false)

pub returns-then-not-numbers_sound : goal.returns-then-not-numbers_sound
unfolding formed_b
returns-then-not-numbers_sound c = simp (sym c.numbers_sound.ensures ∙ not-true _ c.if-not-numbers_sound.true-raw, and-false)

pub needs_kept-requires : goal.needs_kept-requires
needs_kept-requires c =
    let t = c.args.t.now in
    let b = turned_back t in
    let hold = rows-hold t c.rows_sound.ensures c.if-not-rows_sound.false-raw in
    let some : 0 < t.count = omega arith in
    let most : t.count ≤ 256 = omega arith in
    let table = rows-length t.marks t.amounts in
    let row = all-at 256 (row_sound b) hold in
    let same = sym (seen-by t c.args.rule) in (
      seen-within t (rows-ranged b table most hold),
      subst Shaped same (shaped-by New c.args.rule b (shaped-rows b some most table row)),
      subst NoneBeyond same (λ i l. ap (λ r. eqb r.sort 1) (blank-beyond b some most table row i l)),
    )

pub returns : goal.returns
unfolding formed_b
returns c =
    let t = c.args.t.now in
    simp (
      c.needs_kept.ensures ∙ ap (λ v. all_kept v t.needs) (seen-by t c.args.rule),
      le-leb 1 t.count (omega arith),
      le-leb t.count 256 (omega arith),
      rows-hold t c.rows_sound.ensures c.if-not-rows_sound.false-raw,
      eq-eqb _ 256 (rows-length t.marks t.amounts),
      sym (c.modes_sound.ensures ∙ modes-in-table t) ∙ not-false _ c.if-not-modes_sound.false-raw,
      sym c.numbers_sound.ensures ∙ not-false _ c.if-not-numbers_sound.false-raw,
    )
