-- `passing::limits_at` meets its contract.
use mathlib.Core.Path.{◌∙◌}
use Rattle.table.specs.Words.{row_in}
use Rattle.passing.proofs.OfBook.{free-in-most, limits-from}
use Rattle.passing.proofs.limits_at.Goals as goal

pub free_at-its-requires : goal.free_at-its-requires
free_at-its-requires c =
    let k = c in
    let p = k.requires in
    rw k.row_at-row.ensures (p.tm, p.its)

pub raised_to-raised-requires : goal.raised_to-raised-requires
raised_to-raised-requires c =
    let t = c in
    let p = t in
    let o = p in
    let k = o in
    let s = k in
    let a = s.args in
    let m = a.marks.now in
    let e = k.row_at-row.ensures in (
      rw e s.requires.own.margin,
      rw o.free_at-own.ensures (free-in-most m a.w.now a.needs.now a.i s.requires.own),
      rw p.free_at-its.ensures (rw e (free-in-most m a.w.now a.needs.now (row_in m a.w.now a.i).tm s.requires.its)),
      rw t.free_at-top.ensures (free-in-most m a.w.now a.needs.now 0 s.requires.top),
    )

pub limits_of-requires : goal.limits_of-requires
limits_of-requires c =
    let k = c in
    rw k.row_at-row.ensures k.requires.own

pub returns : goal.returns
returns c =
    let q = c in
    let h = q in
    let t = h in
    let p = t in
    let o = p in
    let a = o.args in
    c.limits_of.ensures
    ∙ limits-from a.marks.now a.w.now a.modes.now a.needs.now a.i a.code a.named o.row_at-row.ensures o.free_at-own.ensures
    p.free_at-its.ensures t.free_at-top.ensures h.is_short-short.ensures q.raised_to-raised.ensures
