-- Where a whole record ends, and when there is none: what a loop over records needs.
use mathlib.Core.Path.{◌≡◌, refl, sym, ap, ◌∙◌}
use mathlib.Core.Bool.{Bool, true, false}
use mathlib.Core.List.{List, [], ◌∷◌}
use Prim.Native.Nat.{ℕ, suc, ◌+◌, ◌≤◌, ◌<◌}
use native.Mathlib.Decide.{dec_le}
use native.Mathlib.Omega.{arith}
use lib.Dec.{leb}
use lib.ListN.{length, drop, get_or, length-drop}
use borrow.Author.Tests.{leb-true}
use Rattle.sums.specs.Choice.{pick}
use Rattle.dayfile.specs.declared.Record.{Record}
use Rattle.dayfile.specs.declared.Found.TheVariants.{End, Cut, Whole}
use Rattle.dayfile.specs.Reading.{size_of, record_of, found_from, found_at}
use Rattle.dayfile.proofs.Apart.{zero-is-not-one}
use Rattle.dayfile.proofs.Looking.{found-end, found-one, found-short, found-whole}

-- ---- a whole record, taken apart

-- l, which stands at the place at, begins with the two mark bytes and the rest of r, whole
pub record Stands (l : List ℕ) (at : ℕ) (r : Record) (next : ℕ) : Type 0 where
  pub code : ℕ
  pub named : ℕ
  pub rest : List ℕ
  pub bytes : l ≡ code ∷ named ∷ rest
  pub whole : size_of named ≤ 2 + length rest
  pub is : r ≡ record_of code named rest
  pub after : next ≡ at + size_of named

picked : (t : Bool) (x r : Record) (k n : ℕ) → pick t (Whole x k) Cut ≡ Whole r n → (t ≡ true) × (r ≡ x) × (n ≡ k)
unfolding pick
picked true x r k n e = (refl, cc, cc)
picked false x r k n e = zero-is-not-one (cc)

stands_from : (l : List ℕ) (at : ℕ) (r : Record) (next : ℕ) → found_from l at ≡ Whole r next → Stands l at r next
unfolding found_from
stands_from [] at r next e = zero-is-not-one (cc)
stands_from (c ∷ []) at r next e = zero-is-not-one (cc)
stands_from (c ∷ n ∷ l) at r next e =
    let p = picked (leb (size_of n) (2 + length l)) (record_of c n l) r (at + size_of n) next e in
    record { code = c; named = n; rest = l; bytes = refl; whole = leb-true _ _ p.0; is = p.1; after = p.2 }

pub named-from : (l : List ℕ) (at : ℕ) {r : Record} {next : ℕ} (w : Stands l at r next) → r.named ≡ w.named
unfolding record_of
named-from l at w = ap (λ (x : Record). x.named) w.is

module _ (s : List ℕ) (at : ℕ) {r : Record} {next : ℕ} (found : found_at s at ≡ Whole r next) where
  pub whole-stands : Stands (drop at s) at r next
  unfolding found_at
  whole-stands = stands_from (drop at s) at r next found

  -- the place after a whole record: its length past its own place, within the piece
  pub next-is : next ≡ at + size_of r.named
  next-is = rw (named-from (drop at s) at whole-stands) whole-stands.after

  pub next-least : at + 6 ≤ next
  next-least = omega (arith, next-is)

  pub next-within : next ≤ length s
  next-within =
      let w = whole-stands in
      let k : length (drop at s) ≡ suc (suc (length w.rest)) = ap length w.bytes in
      omega (arith, w.whole, w.after, length-drop at s, k)

-- ---- the end

picked-not : (t : Bool) (x : Record) (k : ℕ) → pick t (Whole x k) Cut ≡ End → ⊥
unfolding pick
picked-not true x k e = zero-is-not-one (cc)
picked-not false x k e = zero-is-not-one (cc)

end-from : (l : List ℕ) (at : ℕ) → found_from l at ≡ End → length l ≡ 0
unfolding found_from
end-from [] at e = refl
end-from (c ∷ []) at e = zero-is-not-one (cc)
end-from (c ∷ n ∷ l) at e = absurd (picked-not _ _ _ e)

-- the end is found exactly where the piece has no byte at the place
pub end-at : (s : List ℕ) (at : ℕ) → found_at s at ≡ End → length s ≤ at
unfolding found_at
end-at s at e = omega (arith, end-from (drop at s) at e, length-drop at s)

pub at-end : (s : List ℕ) (at : ℕ) → length s ≤ at → found_at s at ≡ End
at-end s at h = sym (found-end s at h)

-- ---- too few bytes

-- "bytes are left, but too few for the record's first six bytes or for its amounts": exactly where that is found. Where one byte is
-- left there is no second mark byte: 0 stands for it, and six bytes are asked for.
pub cut_at : (s : List ℕ) (at : ℕ) → found_at s at ≡ Cut → (at < length s) × (length s < at + size_of (get_or s (at + 1) 0))
cut_at s at e = by (dec_le (length s) at) (dec_le (at + size_of (get_or s (at + 1) 0)) (length s))
  where
    by : Dec (length s ≤ at) → Dec (at + size_of (get_or s (at + 1) 0) ≤ length s) → (at < length s) × (length s < at + size_of (get_or s (at + 1) 0))
    by (yes h) q = let z : End ≡ Cut = found-end s at h ∙ e in zero-is-not-one (cc)
    by (no h) (yes q) =
        let z : Whole _ (at + size_of (get_or s (at + 1) 0)) ≡ Cut = found-whole s at (omega arith) _ refl (omega arith) _ refl ∙ e in
        zero-is-not-one (cc)
    by (no h) (no q) = (omega arith, omega arith)

pub at_cut : (s : List ℕ) (at : ℕ) → at < length s → length s < at + size_of (get_or s (at + 1) 0) → found_at s at ≡ Cut
at_cut s at h k = by (dec_le (at + 2) (length s))
  where
    by : Dec (at + 2 ≤ length s) → found_at s at ≡ Cut
    by (yes q) = sym (found-short s at q _ refl (omega arith))
    by (no q) = sym (found-one s at h (omega arith))
