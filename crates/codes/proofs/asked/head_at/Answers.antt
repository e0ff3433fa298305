-- `codes::asked::head_at` meets its contract: no bytes, too few for the mark or for the amounts, or the head of a record.
use mathlib.Core.Path.{refl, sym, ◌∙◌}
use Prim.Native.Nat.{◌+◌, ◌≤◌}
use native.Mathlib.Omega.{arith}
use lib.ListN.{length}
use Rattle.dayfile.proofs.Looking.{found-end, found-one, found-short, found-whole}
use Rattle.codes.proofs.Heading.{heads-read}
use Rattle.codes.proofs.asked.head_at.Goals as goal

pub returns-then-piece-place : goal.returns-then-piece-place
returns-then-piece-place c = sym (found-end _ _ c.if-piece-place.true)

pub returns-then-left-lt2 : goal.returns-then-left-lt2
returns-then-left-lt2 c = sym (found-one _ _ c.if-piece-place.false c.if-left-lt2.true)

pub returns-then-left-n : goal.returns-then-left-n
returns-then-left-n c =
    let m = c in
    let a = m.args in
    let h : a.place + 2 ≤ length a.piece.now = omega (arith, m.if-piece-place.false, m.if-left-lt2.false) in
    sym (found-short a.piece.now a.place h _ c.size-n.ensures c.if-left-n.true)

pub returns : goal.returns
returns c =
    let e = c in
    let m = e in
    let a = m.args in
    let h : a.place + 2 ≤ length a.piece.now = omega (arith, m.if-piece-place.false, m.if-left-lt2.false) in (
      sym (found-whole a.piece.now a.place h _ e.size-n.ensures e.if-left-n.false _ refl),
      record {
        whole = omega (arith, e.size-n.ensures, e.if-left-n.false, m.if-piece-place.false);
        serial = c.number2.ensures ∙ (heads-read a.piece.now a.place _ _).0;
        account = c.number2-2.ensures ∙ (heads-read a.piece.now a.place _ _).1;
      },
    )
