use Rattle.std.proofs.Common.{ℕ, Bool, ◌≤◌, ◌≡◌, ◌++◌, length, take, drop, length-append, length-drop, sym, ap, ◌∙◌, subst, arith}
use borrow.Author.Tests.{eq-eqb, ne_eqb}
use lib.ListN.{length-replicate}
use lib.Seq.{length-take-le, take-append_seam}
use Rattle.table.specs.Words.{turned_back}
use Rattle.book.specs.NeedsListed.{needs_room}
use Rattle.report.specs.Inner.{Tested}
use Rattle.report.proofs.NeedLines.{needs-tested}
use Rattle.report.proofs.all_needs.Goals as goal

pub returns-then-needs-ne0-clause-unsound : goal.returns-then-needs-ne0-clause-unsound
returns-then-needs-ne0-clause-unsound c =
    let n = c.args.n in
    let z = c.zeros-needs in
    let wide : n ≤ length z.result = omega (arith, ap length z.ensures, length-replicate {A = ℕ} 256 0, c.requires) in
    let t = needs-tested (turned_back c.args.t) (take n z.result) (length-take-le _ _ wide ∙ c.requires) in
    t.is ∙ ne_eqb _ _ (rw c.needs.ensures.value at c.if-needs-ne0.true)

pub returns-clause-tested : goal.returns-clause-tested
returns-clause-tested c =
    let b = turned_back c.args.t in
    let n = c.args.n in
    let z = c.zeros-needs in
    let g = c.needs in
    let new = g.new.room in
    let old = drop n z.result in
    let wide : n ≤ length z.result = omega (arith, ap length z.ensures, length-replicate {A = ℕ} 256 0, c.requires) in
    let exact : length new ≡ n = g.auto.room ∙ length-take-le _ _ wide in
    let front : take n (new ++ old) ≡ new = ap (λ (k : ℕ). take k (new ++ old)) (sym exact) ∙ take-append_seam _ _ in
    let t = needs-tested b (take n z.result) (length-take-le _ _ wide ∙ c.requires) in (
      rw (front, g.ensures.room_after) (subst (λ (s : Bool). Tested b s (needs_room b (take n z.result))) (eq-eqb _ _ (rw g.ensures.value at c.if-needs-ne0.false)) t),
      omega (arith, length-append new old, exact, length-drop n z.result, ap length z.ensures, length-replicate {A = ℕ} 256 0, wide),
    )
