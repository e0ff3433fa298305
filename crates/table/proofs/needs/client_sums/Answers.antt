-- `table::needs::client_sums` meets its contract. The invariant: each place has what its clients among the accounts passed are deemed, which fits a word.
use mathlib.Core.Path.{◌≡◌, sym, ap, subst, ◌∙◌}
use Prim.Native.Nat.{ℕ, ◌+◌}
use native.Mathlib.Omega.{arith}
use lib.Dec.{eqb}
use lib.ListN.{length, get_or, length-set, get_or-replicate, length-replicate}
use Rattle.sums.specs.Sum.{only}
use Rattle.rows.specs.declared.Account.{Account}
use Rattle.rows.specs.View.{is_client_of, own_deemed}
use Rattle.rows.specs.Rows.{row_at, account_by, view_by}
use Rattle.rows.specs.DeemedUnder.{account_at, client_due}
use Rattle.rows.specs.Inner.{Slot, clients_below, account_as, view_as}
use Rattle.rows.proofs.NeedSums.{clients-none, clients-step, due-most, due-at, add_at}
use Rattle.rows.proofs.Bounds.{clients-most, bounded-in}
use Rattle.table.specs.Facts.{seen_book}
use Rattle.table.proofs.needs.client_sums.Goals as goal

pub loop-i-init : goal.loop-i-init
loop-i-init c =
    let a = c.args in
    let zero = c.requires.1 in (
      ap length zero ∙ length-replicate {A = ℕ} 256 0,
      λ t h. ap (λ l. get_or l t 0) zero ∙ get_or-replicate 256 t 0 0 h ∙ sym (clients-none (view_as a.tenths (view_by a.rule (seen_book a.count a.marks.now a.w.now))) t),
    )

pub account_as-a-requires : goal.account_as-a-requires
account_as-a-requires c =
    let start = c in
    let most = start.requires.0.most in
    (omega arith, start.requires.0.ranges c.loop-i.i (omega arith))

pub offset_bounds-under-t : goal.offset_bounds-under-t
offset_bounds-under-t c = omega (arith, c.slot-t.ensures.inside)

pub bounds-under-t : goal.bounds-under-t
bounds-under-t c = omega (arith, c.slot-t.ensures.inside)

pub overflow_add-under : goal.overflow_add-under
overflow_add-under c =
    let due = c in
    let at = due in
    let start = at in
    let a = start.args in
    let b = seen_book a.count a.marks.now a.w.now in
    let i = at.loop-i.i in
    let t = due.slot-t.result in
    let most = start.requires.0.most in
    omega (
      arith,
      at.loop-i.invariant.1 t due.slot-t.ensures.inside,
      clients-most (view_as a.tenths (view_by a.rule b)) 100_000_000_000_000 (bounded-in a.tenths a.rule b start.requires.0) t i (omega arith),
      due.client_due-d.ensures ∙ ap client_due due.account_as-a.ensures,
      due-most (account_as a.tenths (account_by a.rule (row_at b i))),
      (bounded-in a.tenths a.rule b start.requires.0).margins i (omega arith),
    )

pub offset_bounds-under-t-in-loop-i : goal.offset_bounds-under-t-in-loop-i
offset_bounds-under-t-in-loop-i c = omega (arith, c.slot-t.ensures.inside)

pub bounds-under-t-in-loop-i : goal.bounds-under-t-in-loop-i
bounds-under-t-in-loop-i c = omega (arith, c.slot-t.ensures.inside)

pub loop-i-preserved : goal.loop-i-preserved
loop-i-preserved c =
    let due = c in
    let at = due in
    let a = at.args in
    let b = seen_book a.count a.marks.now a.w.now in
    let i = at.loop-i.i in
    let under = at.loop-i.under in
    let s = due.slot-t.result in
    let d = due.client_due-d.result in
    let inside = due.slot-t.ensures.inside in
    let is-account = due.account_as-a.ensures in
    let v = view_as a.tenths (view_by a.rule b) in
    let is-due : d ≡ client_due (account_at v i) = due.client_due-d.ensures ∙ ap client_due is-account in
    let is-slot : Slot (row_at b i).tm s = subst (λ (x : Account). Slot x.tm s) is-account due.slot-t.ensures in (
      length-set under s (get_or under s 0 + d) ∙ at.loop-i.invariant.0,
      λ t h.
          let due : only (is_client_of v t i) (own_deemed v i) ≡ only (eqb s t) d =
          rw (is-due) (due-at (account_at v i) s t h is-slot) in
          omega (arith, add_at under s d t (omega arith), at.loop-i.invariant.1 t h, clients-step v t i),
    )

pub returns : goal.returns
returns c =
    let a = c.args in
    record {
      size = c.loop-i.invariant.0;
      each = λ t h. c.loop-i.invariant.1 t h ∙ ap (clients_below (view_as a.tenths (view_by a.rule (seen_book a.count a.marks.now a.w.now))) t) (omega arith);
    }
