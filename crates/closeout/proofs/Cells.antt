-- What stands where in the room: account i's four amounts from place 4 i on.
use mathlib.Core.Path.{◌≡◌, refl, sym, ◌∙◌, ap}
use mathlib.Core.List.{List, ◌++◌}
use Prim.Native.Nat.{ℕ, zero, suc, ◌+◌, ◌*◌, ◌<◌}
use native.Mathlib.Omega.{arith}
use native.Mathlib.Decide.{ℕ_discrete}
use lib.ListN.{length, get_or, length-append, get_or-append}
use lib.Seq.{get_or-append-add}
use Rattle.sums.specs.Sum.{sum}
use Rattle.sums.proofs.Sums.{sum-eq}
use Rattle.rows.specs.View.{View}
use Rattle.closeout.specs.Columns.{own_column, tm_column, cm_column, uncovered, four, rows_to, total}

-- rows of four, whatever they are
module _ (f : ℕ → List ℕ) (of_four : (i : ℕ) → length (f i) ≡ 4) where
  pub length-rows : (n : ℕ) → length (rows_to f n) ≡ 4 * n
  unfolding rows_to
  length-rows zero = refl
  length-rows (suc n) = omega (arith, length-append (rows_to f n) (f n), length-rows n, of_four n)

  pub cell-of-rows : (n i k : ℕ) → i < n → k < 4 → get_or (rows_to f n) (4 * i + k) 0 ≡ get_or (f i) k 0
  unfolding rows_to
  cell-of-rows zero i k m h = absurd (omega arith)
  cell-of-rows (suc n) i k m h = by (ℕ_discrete i n) (λ q. cell-of-rows n i k q h)
    where
      by : Dec (i ≡ n) → (i < n → get_or (rows_to f n) (4 * i + k) 0 ≡ get_or (f i) k 0)
          → get_or (rows_to f n ++ f n) (4 * i + k) 0 ≡ get_or (f i) k 0
      by (yes e) r = rw (e, ← (length-rows n)) (get_or-append-add (rows_to f n) (f n) k 0)
      by (no e) r =
          get_or-append (rows_to f n) (f n) 0 (4 * i + k) (omega (arith, length-rows n)) ∙ r (omega arith)

module _ (v : View) (l : ℕ → ℕ) where
  pub four-long : (i : ℕ) → length (four v l i) ≡ 4
  unfolding four
  four-long i = refl

  pub own-cell : (n i : ℕ) → i < n → get_or (rows_to (four v l) n) (4 * i) 0 ≡ own_column v l i
  unfolding four
  own-cell n i m = ap (λ (k : ℕ). get_or (rows_to (four v l) n) k 0) (omega arith) ∙ cell-of-rows (four v l) four-long n i 0 m (omega arith)

  pub from_tm-cell : (n i : ℕ) → i < n → get_or (rows_to (four v l) n) (4 * i + 1) 0 ≡ tm_column v l i
  unfolding four
  from_tm-cell n i m = cell-of-rows (four v l) four-long n i 1 m (omega arith)

  pub from_cm-cell : (n i : ℕ) → i < n → get_or (rows_to (four v l) n) (4 * i + 2) 0 ≡ cm_column v l i
  unfolding four
  from_cm-cell n i m = cell-of-rows (four v l) four-long n i 2 m (omega arith)

  pub uncovered-cell : (n i : ℕ) → i < n → get_or (rows_to (four v l) n) (4 * i + 3) 0 ≡ uncovered v l i
  unfolding four
  uncovered-cell n i m = cell-of-rows (four v l) four-long n i 3 m (omega arith)

  -- "The total left uncovered is given beside the list.": it is the sum of the list's fourth column
  pub total-cells : total v l ≡ sum v.count (λ i. get_or (rows_to (four v l) v.count) (4 * i + 3) 0)
  total-cells = sum-eq v.count (uncovered v l) _ (λ i m. sym (uncovered-cell v.count i m))
