-- `table::needs::account_at` meets its contract: the account's words are in range, so that its collateral fits a word.
use mathlib.Core.List.{[]}
use mathlib.Core.Path.{◌≡◌, sym, ap, ◌∙◌}
use Prim.Native.Nat.{ℕ, ◌+◌}
use native.Mathlib.Omega.{arith}
use Rattle.rows.specs.declared.Kinds.{Kinds}
use Rattle.rows.specs.declared.Row.{Row}
use Rattle.rows.specs.declared.Rule.{Rule}
use Rattle.rows.specs.Rows.{counted, account_by}
use Rattle.rows.specs.Ranges.{ceilings}
use Rattle.rows.specs.Facts.{InRange, KindsWithin}
use Rattle.rows.proofs.Counted.{counted-most}
use Rattle.table.specs.declared.Marks.{Marks}
use Rattle.table.specs.Words.{marks_from, row_in}
use Rattle.table.proofs.Gathered.{row-in}
use Rattle.table.proofs.needs.account_at.Goals as goal

-- the marks that the account is seen by: who is live is none of them
abbrev unseen_live : Marks → Marks
unseen_live m = marks_from m.sort [] m.tm

-- the account made of words that are the row's
made : (rule : Rule) (row : Row) (k : Kinds) {m p x : ℕ} → k ≡ row.allocated → m ≡ row.margin → p ≡ row.pledged → x ≡ counted rule k.securities
    → record { sort = row.sort; tm = row.tm; margin = m; collateral = k.cash + k.deposits + k.guarantees + p + x } ≡ account_by rule row
made rule row k e f g h = cc

pub overflow_add-result : goal.overflow_add-result
overflow_add-result c =
    let held : InRange (row_in (unseen_live c.args.marks.now) c.args.w.now c.args.i) =
    rw (row-in (unseen_live c.args.marks.now) c.args.w.now c.args.i c.requires.0) at c.requires.1
    in
    let most : KindsWithin c.kinds_at-a.result ceilings =
    let h = held in rw c.kinds_at-a.ensures (omega arith)
    in omega (arith, most)

pub overflow_add-result-2 : goal.overflow_add-result-2
overflow_add-result-2 c =
    let held : InRange (row_in (unseen_live c.args.marks.now) c.args.w.now c.args.i) =
    rw (row-in (unseen_live c.args.marks.now) c.args.w.now c.args.i c.requires.0) at c.requires.1
    in
    let most : KindsWithin c.kinds_at-a.result ceilings =
    let h = held in rw c.kinds_at-a.ensures (omega arith)
    in omega (arith, most)

pub overflow_add-result-3 : goal.overflow_add-result-3
overflow_add-result-3 c =
    let held : InRange (row_in (unseen_live c.args.marks.now) c.args.w.now c.args.i) =
    rw (row-in (unseen_live c.args.marks.now) c.args.w.now c.args.i c.requires.0) at c.requires.1
    in
    let most : KindsWithin c.kinds_at-a.result ceilings =
    let h = held in rw c.kinds_at-a.ensures (omega arith)
    in omega (arith, most, c.word_at-2.ensures, held.pledged)

pub counted_of-requires : goal.counted_of-requires
counted_of-requires c =
    let held : InRange (row_in (unseen_live c.args.marks.now) c.args.w.now c.args.i) =
    rw (row-in (unseen_live c.args.marks.now) c.args.w.now c.args.i c.requires.0) at c.requires.1
    in
    let most : KindsWithin c.kinds_at-a.result ceilings =
    let h = held in rw c.kinds_at-a.ensures (omega arith)
    in omega (arith, most)

pub overflow_add-result-4 : goal.overflow_add-result-4
overflow_add-result-4 c =
    let held : InRange (row_in (unseen_live c.args.marks.now) c.args.w.now c.args.i) =
    rw (row-in (unseen_live c.args.marks.now) c.args.w.now c.args.i c.requires.0) at c.requires.1
    in
    let most : KindsWithin c.kinds_at-a.result ceilings =
    let h = held in rw c.kinds_at-a.ensures (omega arith)
    in
    let at = c in
    let k = at in
    omega (
      arith,
      most,
      at.word_at-2.ensures,
      held.pledged,
      c.counted_of.ensures,
      counted-most k.args.rule k.kinds_at-a.result.securities,
    )

pub returns : goal.returns
returns c =
    let at = c in
    let k = at in
    let a = k.args in
    let m = unseen_live a.marks.now in
    made a.rule (row_in m a.w.now a.i) k.kinds_at-a.result k.kinds_at-a.ensures at.word_at.ensures at.word_at-2.ensures c.counted_of.ensures
    ∙ sym (ap (account_by a.rule) (row-in m a.w.now a.i k.requires.0))
