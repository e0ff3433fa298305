-- `table::needs::needs_kept` meets its contract. The invariant: the flag is the test of the kept needs passed (K3).
use mathlib.Core.Bool.{◌&&◌}
use mathlib.Core.Path.{refl, sym, ap, ◌∙◌}
use Prim.Native.Nat.{ℕ}
use native.Mathlib.Omega.{arith}
use lib.Dec.{eqb}
use lib.ListN.{get_or}
use Rattle.sums.specs.Sum.{all}
use Rattle.sums.proofs.Sums.{all_none, all-step, all-eq}
use Rattle.rows.specs.Rows.{view_by}
use Rattle.rows.specs.KeptNeeds.{kept_need, all_kept}
use Rattle.rows.proofs.KeptNeeds.{afresh-at}
use Rattle.table.specs.Facts.{seen_book}
use Rattle.table.proofs.needs.needs_kept.Invariants.{same}
use Rattle.table.proofs.needs.needs_kept.Goals as goal

pub needs_afresh-requires : goal.needs_afresh-requires
needs_afresh-requires c = (c.requires.0, c.requires.1, c.requires.2, refl)

pub loop-i-init : goal.loop-i-init
loop-i-init c = sym (all_none _)

pub loop-i-preserved : goal.loop-i-preserved
loop-i-preserved c =
    let afresh = c in
    let l = c.loop-i in
    let p = same afresh.args.needs.now afresh.needs_afresh.new.needs in
    ap (λ x. x && p l.i) l.invariant ∙ sym (all-step l.i p)

pub returns : goal.returns
unfolding all_kept
returns c =
    let afresh = c in
    let a = afresh.args in
    let v = view_by a.rule (seen_book a.count a.marks.now a.w.now) in
    let fresh = afresh.needs_afresh.new.needs in
    c.loop-i.invariant ∙ ap (λ (k : ℕ). all k (same a.needs.now fresh)) (omega arith)
    ∙ all-eq 256 (same a.needs.now fresh) (λ j. eqb (get_or a.needs.now j 0) (kept_need v j))
    (λ j l. ap (eqb (get_or a.needs.now j 0)) (ap (λ n. get_or n j 0) afresh.needs_afresh.ensures ∙ afresh-at v j l))

pub offset_bounds-needs-i : goal.offset_bounds-needs-i
offset_bounds-needs-i c = omega arith

pub bounds-needs-i : goal.bounds-needs-i
bounds-needs-i c = omega arith

pub offset_bounds-fresh-i : goal.offset_bounds-fresh-i
offset_bounds-fresh-i c = omega arith

pub bounds-fresh-i : goal.bounds-fresh-i
bounds-fresh-i c = omega arith
