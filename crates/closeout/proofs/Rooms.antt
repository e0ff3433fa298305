-- Rows of four put into a room, one after the other: the room after the pass is `rows_to`.
use mathlib.Core.Path.{◌≡◌, sym, ◌∙◌, ap}
use mathlib.Core.List.{List, [], ◌∷◌, ◌++◌, append-nil}
use Prim.Native.Nat.{ℕ, suc, ◌+◌, ◌*◌, ◌≤◌}
use native.Mathlib.Numerals.{add-one}
use native.Mathlib.Omega.{arith}
use lib.ListN.{length, set, take, drop, drop_of_length-le}
use lib.Seq.{sets-eq, take_at, drop-append-add, drop-drop}
use Rattle.closeout.specs.Columns.{rows_to}
use Rattle.closeout.specs.Inner.{put_at}
use Rattle.closeout.proofs.Cells.{length-rows}

-- four stores, one after the other
pub four-stores : (r : List ℕ) (at a b c d : ℕ) → at + 4 ≤ length r
    → set (set (set (set r at a) (at + 1) b) (at + 2) c) (at + 3) d ≡ put_at r at (a ∷ b ∷ c ∷ d ∷ [])
four-stores r at a b c d h =
    let e₁ : at + 1 ≡ suc at = add-one at in
    let e₂ : at + 2 ≡ suc (suc at) = omega arith in
    let e₃ : at + 3 ≡ suc (suc (suc at)) = omega arith in
    rw (e₁, e₂, e₃) (sets-eq (a ∷ b ∷ c ∷ d ∷ []) r at h)

module _ (f : ℕ → List ℕ) (of_four : (i : ℕ) → length (f i) ≡ 4) where
  -- one row more, put into a room whose first rows stand
  pub row_more : (r₀ r : List ℕ) (i : ℕ) → r ≡ rows_to f i ++ drop (4 * i) r₀
      → put_at r (4 * i) (f i) ≡ rows_to f (i + 1) ++ drop (4 * (i + 1)) r₀
  unfolding rows_to
  row_more r₀ r i e =
      let n : length (rows_to f i) ≡ 4 * i = length-rows f of_four i in
      let k : 4 * i + 4 ≡ 4 * (i + 1) = omega arith in
      let front : take (4 * i) r ≡ rows_to f i = ap (take (4 * i)) e ∙ take_at (rows_to f i) (drop (4 * i) r₀) (4 * i) n in
      let back : drop (4 * i + 4) r ≡ drop (4 * (i + 1)) r₀ =
      ap (drop (4 * i + 4)) e ∙ ap (λ (m : ℕ). drop (m + 4) (rows_to f i ++ drop (4 * i) r₀)) (sym n)
      ∙ drop-append-add (rows_to f i) (drop (4 * i) r₀) 4 ∙ drop-drop 4 (4 * i) r₀ ∙ ap (λ (m : ℕ). drop m r₀) k in
      let next : rows_to f (i + 1) ≡ rows_to f i ++ f i = ap (rows_to f) (add-one i) in
      cc

  -- a room that is exactly the rows
  pub rows_all : (r₀ r : List ℕ) (n : ℕ) → length r₀ ≡ 4 * n → r ≡ rows_to f n ++ drop (4 * n) r₀ → r ≡ rows_to f n
  rows_all r₀ r n l e =
      let le : length r₀ ≤ 4 * n = omega arith in
      e ∙ ap (λ (t : List ℕ). rows_to f n ++ t) (drop_of_length-le r₀ le) ∙ append-nil (rows_to f n)
