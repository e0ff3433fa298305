-- `archives::file` meets its contract. The invariant: the room holds the file with the lines of the first i entries.
use borrow.Author.Rules.{rules}
use mathlib.Core.List.{List}
use mathlib.Core.Path.{◌≡◌, refl, sym, ap, ◌∙◌}
use Prim.Native.Nat.{ℕ, ◌/◌}
use native.Mathlib.Numerals.{add-one}
use native.Mathlib.Omega.{arith}
use lib.Dec.{ltb}
use lib.ListN.{length}
use Rattle.archives.specs.Entries.{entry_at}
use Rattle.archives.specs.Files.{with_line, filed_to}
use Rattle.archives.proofs.Held.{holds_same, holds_as, held-length}
use Rattle.archives.proofs.file.Goals as goal

pub loop-i-init : goal.loop-i-init
unfolding filed_to
loop-i-init c = (holds_same _ _ c.end_line-before.ensures.holds.within, omega arith, refl)

pub with_entry-count-requires : goal.with_entry-count-requires
with_entry-count-requires c =
    let l = c in
    let d = l in
    omega (arith, l.loop-i.invariant, d.end_line-before.ensures.upper_bound, d.end_line-before.auto.room)

pub loop-i-preserved : goal.loop-i-preserved
unfolding filed_to
loop-i-preserved c =
    let w = c in
    let l = w.loop-i in
    let a = w.args in
    let e = ap (λ (f : List ℕ). with_line f (entry_at a.entries.now l.i)) l.invariant.0.is in
    (rw (add-one l.i) (holds_as e w.with_entry-count.ensures.holds), omega (arith, w.with_entry-count.ensures.upper_bound), search rules)

pub shape_of-room : goal.shape_of-room
shape_of-room c = c.loop-i.invariant.2 ∙ c.end_line-before.auto.room

pub returns : goal.returns
returns c =
    let l = c.loop-i in
    let d = c in
    let a = d.args in
    let e : l.i ≡ length a.entries.now / 3 = omega arith in
    let q = ap (λ (f : List ℕ). filed_to f a.entries.now (length a.entries.now / 3)) d.end_line-before.ensures.holds.is in
    record { holds = holds_as q (rw e at l.invariant.0); put_value = ap (λ (k : ℕ). ltb k l.count) (sym (held-length d.end_line-before.ensures.holds)) }
