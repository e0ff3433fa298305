use Rattle.std.proofs.Common.{refl}
use Rattle.steps.proofs.following.rise.Goals as goal

pub returns : goal.returns
returns c =
    let l = c in
    let w = c.word_at-m.ensures in
    let e = l.less-e.ensures in
    record {
      need = rw (l.less.ensures, l.less-n.ensures, w);
      over = rw e;
      mode = rw (c.mode_after.ensures, c.mode_of.ensures, e, w);
      rest = refl;
    }
