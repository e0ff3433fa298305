-- A piece of the day file that grows, or is looked at from a place on: what a program that reads in pieces needs.
use mathlib.Core.Bool.{Bool, true, false}
use mathlib.Core.List.{List, [], ◌∷◌, ◌++◌}
use mathlib.Core.Path.{◌≡◌, refl, sym, ap, ◌∙◌}
use Prim.Native.Nat.{ℕ, zero, suc, ◌+◌, ◌*◌, ◌^◌, ◌≤◌, ◌<◌}
use native.Mathlib.Nat.{add_assoc}
use native.Mathlib.Omega.{arith}
use lib.Dec.{leb}
use lib.ListN.{length, drop, length-append, length-drop}
use lib.Seq.{drop-append-le, drop-drop}
use borrow.Author.Tests.{le-leb, leb-false}
use Rattle.sums.specs.Choice.{pick}
use Rattle.sums.proofs.Choices.{pick_yes}
use Rattle.numbers.specs.Bytes.{number, Bytes}
use Rattle.numbers.proofs.Numbers.{bytes_drop}
use Rattle.dayfile.specs.declared.Record.{Record}
use Rattle.dayfile.specs.declared.Found.{Found}
use Rattle.dayfile.specs.declared.Found.TheVariants.{End, Cut, Whole}
use Rattle.dayfile.specs.Records.{bit}
use Rattle.dayfile.specs.Reading.{size_of, got, past, record_of, found_from, found_at}
use Rattle.dayfile.proofs.Apart.{zero-is-not-one}
use Rattle.dayfile.proofs.Marks.{ones-bits}
use Rattle.dayfile.proofs.Amounts.{past-length}
use Rattle.dayfile.proofs.Lengths.{size-most}
use Rattle.dayfile.proofs.Places.{Stands, whole-stands, next-least, next-within}

-- ---- bytes that are there are read the same when more follow

number-longer : (k : ℕ) (l x : List ℕ) → k ≤ length l → number k (l ++ x) ≡ number k l
unfolding number
number-longer zero l x h = refl
number-longer (suc k) [] x h = absurd (omega arith)
number-longer (suc k) (b ∷ l) x h = ap (λ n. b * 256 ^ k + n) (number-longer k l x (omega arith))

got-longer : (b k : ℕ) (l x : List ℕ) → 8 * b + k ≤ length l → got b (l ++ x) ≡ got b l
unfolding got
got-longer zero k l x h = refl
got-longer (suc b) k l x h = number-longer 8 l x (omega arith)

past-longer : (b k : ℕ) (l x : List ℕ) → 8 * b + k ≤ length l → past b (l ++ x) ≡ past b l ++ x
unfolding past
past-longer zero k l x h = refl
past-longer (suc b) k l x h = drop-append-le 8 l x (omega arith)

record-longer : (c n : ℕ) (l x : List ℕ) → size_of n ≤ 2 + length l → record_of c n (l ++ x) ≡ record_of c n l
unfolding record_of
record-longer c n l x h =
    let la = drop 2 l in
    let l0 = drop 2 la in
    let l1 = past (bit 0 n) l0 in
    let l2 = past (bit 1 n) l1 in
    let l3 = past (bit 2 n) l2 in
    let l4 = past (bit 3 n) l3 in
    let l5 = past (bit 4 n) l4 in
    let o = ones-bits n in
    let k0 : 8 * bit 0 n + (8 * bit 1 n + (8 * bit 2 n + (8 * bit 3 n + (8 * bit 4 n + (8 * bit 5 n + 0))))) ≤ length l0 = simp length-drop (omega arith) in
    let k1 = past-length (bit 0 n) _ l0 k0 in
    let k2 = past-length (bit 1 n) _ l1 k1 in
    let k3 = past-length (bit 2 n) _ l2 k2 in
    let k4 = past-length (bit 3 n) _ l3 k3 in
    let k5 = past-length (bit 4 n) _ l4 k4 in
    let ea : drop 2 (l ++ x) ≡ la ++ x = drop-append-le 2 l x (omega arith) in
    let e0 : drop 2 (la ++ x) ≡ l0 ++ x = drop-append-le 2 la x (omega (arith, length-drop 2 l)) in
    simp (
      number-longer 2 l x (omega arith),
      ea,
      number-longer 2 la x (omega (arith, length-drop 2 l)),
      e0,
      got-longer _ _ l0 x k0,
      past-longer _ _ l0 x k0,
      got-longer _ _ l1 x k1,
      past-longer _ _ l1 x k1,
      got-longer _ _ l2 x k2,
      past-longer _ _ l2 x k2,
      got-longer _ _ l3 x k3,
      past-longer _ _ l3 x k3,
      got-longer _ _ l4 x k4,
      past-longer _ _ l4 x k4,
      got-longer _ _ l5 x k5,
    )

from-longer : (l x : List ℕ) (at : ℕ) (r : Record) (next : ℕ) → Stands l at r next → found_from (l ++ x) at ≡ Whole r next
unfolding found_from
from-longer l x at r next w =
    let fits = le-leb (size_of w.named) (2 + length (w.rest ++ x)) (omega (arith, w.whole, length-append w.rest x)) in
    rw w.bytes
    (pick_yes (leb (size_of w.named) (2 + length (w.rest ++ x))) _ _ fits
    ∙ ap (λ k. Whole k (at + size_of w.named)) (record-longer w.code w.named w.rest x w.whole ∙ sym w.is)
    ∙ ap (Whole r) (sym w.after))

-- a whole record stays what it is when the piece grows
pub found-longer : (s x : List ℕ) (at : ℕ) (r : Record) (next : ℕ) → found_at s at ≡ Whole r next → found_at (s ++ x) at ≡ Whole r next
unfolding found_at
found-longer s x at r next f =
    let h : at ≤ length s = omega (arith, next-least s at f, next-within s at f) in
    rw (drop-append-le at s x h) (from-longer (drop at s) x at r next (whole-stands s at f))

-- ---- a piece from a place on

-- what was found, p bytes further on
abbrev pub further : ℕ → Found → Found
further p End = End
further p Cut = Cut
further p (Whole r next) = Whole r (p + next)

from-further : (l : List ℕ) (p at : ℕ) → found_from l (p + at) ≡ further p (found_from l at)
unfolding found_from pick
from-further [] p at = refl
from-further (c ∷ []) p at = refl
from-further (c ∷ n ∷ l) p at = by (leb (size_of n) (2 + length l))
  where
    by : (t : Bool) → pick t (Whole (record_of c n l) (p + at + size_of n)) Cut ≡ further p (pick t (Whole (record_of c n l) (at + size_of n)) Cut)
    by true = ap (Whole (record_of c n l)) (add_assoc p at (size_of n))
    by false = refl

pub found-further : (s : List ℕ) (p at : ℕ) → found_at s (p + at) ≡ further p (found_at (drop p s) at)
unfolding found_at
found-further s p at = ap (λ l. found_from l (p + at)) (sym (drop-drop at p s)) ∙ from-further (drop at (drop p s)) p at

-- ---- too few bytes

cut-from : (l : List ℕ) (at : ℕ) → Bytes l → found_from l at ≡ Cut → length l < 70
unfolding found_from pick
cut-from [] at y e = omega arith
cut-from (c ∷ []) at y e = omega arith
cut-from (c ∷ n ∷ l) at y e = by (leb (size_of n) (2 + length l)) refl e
  where
    by : (t : Bool) → leb (size_of n) (2 + length l) ≡ t → pick t (Whole (record_of c n l) (at + size_of n)) Cut ≡ Cut → length (c ∷ n ∷ l) < 70
    by true q e = zero-is-not-one (cc)
    by false q e = omega (arith, leb-false (size_of n) (2 + length l) q, size-most n (y 1))

-- "The longest record is 70 bytes.": where there are 70, they are not too few
pub cut-near : (s : List ℕ) (at : ℕ) → Bytes s → found_at s at ≡ Cut → length s < at + 70
unfolding found_at
cut-near s at y e = omega (arith, cut-from (drop at s) at (bytes_drop at s y) e, length-drop at s)
