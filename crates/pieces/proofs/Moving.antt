-- Bytes brought to the front, one after the other: what is left of a piece before the next is read behind it.
use mathlib.Core.List.{List, [], ◌∷◌, ◌++◌}
use mathlib.Core.Path.{◌≡◌, refl, sym, ap, ◌∙◌}
use Prim.Native.Nat.{ℕ, ◌+◌, ◌<◌}
use native.Mathlib.Numerals.{add-one}
use native.Mathlib.Omega.{arith}
use lib.ListN.{length, take, drop, get_or, set, length-set, length-drop}
use lib.Seq.{take-suc, take-suc-set, drop-set-lt, drop-drop, get_or-drop}

-- after i bytes: those are at the front, and what stands past them is as it was
pub record Moved (old : List ℕ) (from i : ℕ) (now : List ℕ) : Type 0 where
  pub size : length now ≡ length old
  pub front : take i now ≡ take i (drop from old)
  pub rest : drop i now ≡ drop i old

pub none-moved : (old : List ℕ) (from : ℕ) → Moved old from 0 old
none-moved old from = record { size = refl; front = refl; rest = refl }

module _ (old : List ℕ) (from i : ℕ) (now : List ℕ) (h : from + i < length old) (m : Moved old from i now) where
  same_byte : get_or now (from + i) 0 ≡ get_or (drop from old) i 0
  same_byte =
      let e : i + from ≡ from + i = omega arith in
      ap (λ k. get_or now k 0) (sym e)
      ∙ sym (get_or-drop i now from 0)
      ∙ ap (λ l. get_or l from 0) m.rest
      ∙ get_or-drop i old from 0
      ∙ ap (λ k. get_or old k 0) e
      ∙ sym (get_or-drop from old i 0)

  pub one-moved : Moved old from (i + 1) (set now i (get_or now (from + i) 0))
  one-moved =
      let v = get_or now (from + i) 0 in
      let p : i < length now = omega (arith, m.size) in
      let q : i < length (drop from old) = omega (arith, length-drop from old) in
      record {
        size = length-set now i v ∙ m.size;
        front =
            rw add-one
            (take-suc-set now i v p
            ∙ ap (λ l. l ++ (v ∷ [])) m.front
            ∙ ap (λ x. take i (drop from old) ++ (x ∷ [])) same_byte
            ∙ sym (take-suc (drop from old) i 0 q));
        rest = drop-set-lt (i + 1) now i v (omega arith) ∙ sym (drop-drop 1 i now) ∙ ap (drop 1) m.rest ∙ drop-drop 1 i old;
      }
