use Rattle.std.proofs.Common.{arith}
use Rattle.words.proofs.Saying.{body_is}
use Rattle.words.proofs.say.body_at.Goals as goal

pub overflow_add-what-4 : goal.overflow_add-what-4
overflow_add-what-4 c =
    let k = c in
    omega (arith, k.kind_at-k.ensures.named_bound, k.kind_at-g.ensures.named_bound, k.kind_at-d.ensures.named_bound, k.kind_at-c.ensures.named_bound, k.mark_of-mark.ensures.upper_bound)

pub overflow_cast-what : goal.overflow_cast-what
overflow_cast-what c =
    let s = c in
    omega (arith, s.requires)

pub returns : goal.returns
returns c =
    let m = c in
    let p = m in
    let k = p in
    let g = k in
    let d = g in
    let h = d in
    let a = h.args in
    body_is a.text.now a.a a.code a.serial _ _ _ _ _ _ _ _ h.mark_of-mark.ensures.value h.kind_at-c.ensures.value d.kind_at-d.ensures.value g.kind_at-g.ensures.value k.kind_at-k.ensures.value p.only_at-p.ensures m.only_at-m.ensures c.ends_at.ensures
