-- The old order's rows, gathered from a table's words.
use mathlib.Core.Bool.{Bool}
use mathlib.Core.List.{List}
use mathlib.Core.Path.{◌≡◌, refl, ap, ◌∙◌}
use Prim.Native.Nat.{ℕ, zero, suc, ◌<◌}
use native.Mathlib.Omega.{arith}
use lib.ListN.{length, get_or, set}
use Rattle.sums.proofs.Lists.{length-list_to, at-list_to, list_to-set}
use Rattle.rows.specs.Rows.{no_row}
use Rattle.table.specs.declared.Marks.{Marks}
use Rattle.table.specs.Words.{word_at, row_from, amount_of, row_in, rows_of}

pub rows-length : (m : Marks) (w : List ℕ) → length (rows_of m w) ≡ 256
unfolding rows_of
rows-length m w = length-list_to (row_in m w) 256

pub row-in : (m : Marks) (w : List ℕ) (i : ℕ) → i < 256 → get_or (rows_of m w) i no_row ≡ row_in m w i
unfolding rows_of
row-in m w i l = at-list_to (row_in m w) 256 i no_row l

-- words that differ at one account alone
pub rows-but-one : (m n : Marks) (w u : List ℕ) (i : ℕ) → i < 256 → ((a : ℕ) → a < 256 → (a ≡ i → ⊥) → row_in n u a ≡ row_in m w a)
    → rows_of n u ≡ set (rows_of m w) i (row_in n u i)
unfolding rows_of
rows-but-one m n w u i l h = list_to-set (row_in m w) (row_in n u) 256 i l h

-- two rows are equal by their ten amounts
pub row-eq : (s : ℕ) (v : Bool) (t : ℕ) (f g : ℕ → ℕ) → ((k : ℕ) → k < 10 → f k ≡ g k) → row_from s v t f ≡ row_from s v t g
row-eq s v t f g h = rw (
  h 0 (omega arith),
  h 1 (omega arith),
  h 2 (omega arith),
  h 3 (omega arith),
  h 4 (omega arith),
  h 5 (omega arith),
  h 6 (omega arith),
  h 7 (omega arith),
  h 8 (omega arith),
  h 9 (omega arith),
)

-- what holds of each of the ten amounts
pub each-of-ten : (P : ℕ → Type 0) → P 0 → P 1 → P 2 → P 3 → P 4 → P 5 → P 6 → P 7 → P 8 → P 9 → (k : ℕ) → k < 10 → P k
each-of-ten P p0 p1 p2 p3 p4 p5 p6 p7 p8 p9 zero l = p0
each-of-ten P p0 p1 p2 p3 p4 p5 p6 p7 p8 p9 (suc zero) l = p1
each-of-ten P p0 p1 p2 p3 p4 p5 p6 p7 p8 p9 (suc (suc zero)) l = p2
each-of-ten P p0 p1 p2 p3 p4 p5 p6 p7 p8 p9 (suc (suc (suc zero))) l = p3
each-of-ten P p0 p1 p2 p3 p4 p5 p6 p7 p8 p9 (suc (suc (suc (suc zero)))) l = p4
each-of-ten P p0 p1 p2 p3 p4 p5 p6 p7 p8 p9 (suc (suc (suc (suc (suc zero))))) l = p5
each-of-ten P p0 p1 p2 p3 p4 p5 p6 p7 p8 p9 (suc (suc (suc (suc (suc (suc zero)))))) l = p6
each-of-ten P p0 p1 p2 p3 p4 p5 p6 p7 p8 p9 (suc (suc (suc (suc (suc (suc (suc zero))))))) l = p7
each-of-ten P p0 p1 p2 p3 p4 p5 p6 p7 p8 p9 (suc (suc (suc (suc (suc (suc (suc (suc zero)))))))) l = p8
each-of-ten P p0 p1 p2 p3 p4 p5 p6 p7 p8 p9 (suc (suc (suc (suc (suc (suc (suc (suc (suc zero))))))))) l = p9
each-of-ten P p0 p1 p2 p3 p4 p5 p6 p7 p8 p9 (suc (suc (suc (suc (suc (suc (suc (suc (suc (suc k)))))))))) l = absurd (omega arith)

-- amount k of account i, by its row
pub word_in : (m : Marks) (w : List ℕ) (k i : ℕ) → k < 10 → i < 256 → amount_of (get_or (rows_of m w) i no_row) k ≡ word_at w k i
word_in m w k i lk l =
    ap (λ r. amount_of r k) (row-in m w i l)
    ∙ each-of-ten (λ j. amount_of (row_in m w i) j ≡ word_at w j i) refl refl refl refl refl refl refl refl refl refl k lk
