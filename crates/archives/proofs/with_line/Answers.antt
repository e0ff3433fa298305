-- `archives::with_line` meets its contract.
use borrow.Author.Rules.{rules}
use mathlib.Core.Path.{sym, ◌∙◌}
use native.Mathlib.Omega.{arith}
use lib.Seq.{length-take-le}
use Rattle.archives.proofs.Held.{holds_same, holds_as, holds_more}
use Rattle.archives.proofs.Filing.{with-there, with-missing}
use Rattle.archives.proofs.with_line.Goals as goal

pub returns-then-has_line : goal.returns-then-has_line
returns-then-has_line c =
    let h = c in
    let a = h.args in
    record { holds = holds_as (sym (with-there _ _ (sym h.has_line.ensures ∙ c.if-has_line.true))) (holds_same a.room.now a.n (omega arith)); upper_bound = omega arith }

pub returns : goal.returns
returns c =
    let t = c in
    let h = t in
    let a = h.args in record { holds = holds_as (sym (with-missing _ _ (sym h.has_line.ensures ∙ t.if-has_line.false))) (holds_more (holds_same a.room.now a.n (omega arith)) t.put_text.ensures); upper_bound = omega (arith, t.put_text.ensures.next) }

pub slice_bounds-has_line-end-2 : goal.slice_bounds-has_line-end-2
slice_bounds-has_line-end-2 c = sym (length-take-le _ _ (search rules))
