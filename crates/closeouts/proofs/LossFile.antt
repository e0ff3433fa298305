-- The losses that a file's bytes say: up to 256 that were written read back, and what lies further on does not matter.
use mathlib.Core.Bool.{Bool, true, false, ◌&&◌}
use mathlib.Core.List.{List, [], ◌∷◌, ◌++◌}
use mathlib.Core.Path.{◌≡◌, refl, sym, ap, ◌∙◌}
use Prim.Native.Nat.{ℕ, zero, suc, ◌+◌, ◌*◌, ◌/◌, ◌%◌, ◌≤◌, ◌<◌}
use native.Mathlib.Omega.{arith}
use borrow.Author.Tests.{leb-true, leb-false, le-leb, lt-leb, eq-eqb}
use lib.Dec.{eqb, leb}
use lib.ListN.{length, take, drop, get_or, length-append}
use lib.Seq.{length-take-le, get_or-take, take_all, take-length, drop-drop}
use Rattle.sums.specs.Choice.{pick}
use Rattle.sums.specs.Listed.{list_to}
use Rattle.sums.proofs.Choices.{and_right, and-join, pick_yes, pick_no}
use Rattle.sums.proofs.Lists.{list-is}
use Rattle.numbers.specs.Bytes.{number, bytes_of}
use Rattle.numbers.proofs.Numbers.{length-bytes_of, drop-bytes_of, number-bytes_of}
use Rattle.closeouts.specs.declared.losses.Losses.{Losses}
use Rattle.closeouts.specs.Losses.{loss_in, loss_count, losses_of, loss_file, Fits, Came}

-- no more losses than the file has room for, and at most 256
pub count-within : (n : ℕ) → (8 * loss_count n ≤ n) × (loss_count n ≤ 256)
unfolding loss_count pick
count-within n = by (eqb (n % 8) 0 && leb n (8 * 256)) refl
  where
    by : (t : Bool) → (eqb (n % 8) 0 && leb n (8 * 256)) ≡ t → (8 * pick t (n / 8) 0 ≤ n) × (pick t (n / 8) 0 ≤ 256)
    by true e = (omega arith, omega (arith, leb-true n (8 * 256) (and_right (eqb (n % 8) 0) _ e)))
    by false e = (omega arith, omega arith)

-- a list that has them at its first places
pub first-places : (file list : List ℕ) (n : ℕ) → n ≡ loss_count (length file) → n ≤ length list → ((i : ℕ) → i < n → get_or list i 0 ≡ loss_in file i)
    → take n list ≡ losses_of file
unfolding losses_of
first-places file list n e l h =
    sym (list-is (loss_in file) n 0 (take n list) (length-take-le n list l) (λ i m. get_or-take n list i 0 m ∙ h i m))
    ∙ ap (list_to (loss_in file)) e

-- k times eight bytes are k losses, up to 256
count-of-all : (k : ℕ) → k ≤ 256 → loss_count (8 * k) ≡ k
unfolding loss_count
count-of-all k h =
    pick_yes _ (8 * k / 8) 0 (and-join {a = eqb (8 * k % 8) 0} (eq-eqb (8 * k % 8) 0 (omega arith)) (le-leb (8 * k) (8 * 256) (omega arith))) ∙ omega arith

-- a longer file has none
count_past : (n : ℕ) → 8 * 256 < n → loss_count n ≡ 0
unfolding loss_count
count_past n h = pick_no _ (n / 8) 0 (and-right-fails (eqb (n % 8) 0) _ (lt-leb n (8 * 256) h))
  where
    and-right-fails : (a b : Bool) → b ≡ false → (a && b) ≡ false
    and-right-fails true b e = e
    and-right-fails false b e = refl

-- "One byte more than 256 accounts want": the first 2049 bytes say what the whole file says
pub what-lies-further-on-does-not-matter : (file : List ℕ) → losses_of (take 2049 file) ≡ losses_of file
unfolding losses_of list_to
what-lies-further-on-does-not-matter file = by (leb (length file) 2049) refl
  where
    by : (t : Bool) → leb (length file) 2049 ≡ t → losses_of (take 2049 file) ≡ losses_of file
    by true e = ap losses_of (take_all 2049 file (leb-true (length file) 2049 e))
    by false e =
        let past : 2049 < length file = leb-false (length file) 2049 e in
        let front : length (take 2049 file) ≡ 2049 = length-take-le 2049 file (omega arith) in
        rw (count_past (length (take 2049 file)) (omega arith), count_past (length file) (omega arith))

length-loss_file : (losses : List ℕ) → length (loss_file losses) ≡ 8 * length losses
unfolding loss_file
length-loss_file [] = refl
length-loss_file (x ∷ losses) = omega (arith, length-append (bytes_of 8 x) (loss_file losses), length-bytes_of 8 x, length-loss_file losses)

loss-at : (losses : List ℕ) → Fits losses → (i : ℕ) → i < length losses → get_or losses i 0 ≡ loss_in (loss_file losses) i
unfolding loss_file
loss-at [] fit i h = absurd (omega arith)
loss-at (x ∷ losses) fit zero h = sym (number-bytes_of 8 x (loss_file losses) (fit 0))
loss-at (x ∷ losses) fit (suc i) h =
    let e : 8 * suc i ≡ 8 + 8 * i = omega arith in
    loss-at losses (λ j. fit (suc j)) i (omega arith)
    ∙ ap (λ l. number 8 (drop (8 * i) l)) (sym (drop-bytes_of 8 x (loss_file losses)))
    ∙ ap (number 8) (drop-drop (8 * i) 8 (bytes_of 8 x ++ loss_file losses))
    ∙ ap (λ (k : ℕ). number 8 (drop k (bytes_of 8 x ++ loss_file losses))) (sym e)

-- losses that are written read back, in their order and none left out
pub losses-read-back : (losses : List ℕ) → Fits losses → length losses ≤ 256 → losses_of (loss_file losses) ≡ losses
losses-read-back losses fit h =
    let n : length losses ≡ loss_count (length (loss_file losses)) = sym (ap loss_count (length-loss_file losses) ∙ count-of-all (length losses) h) in
    sym (first-places (loss_file losses) losses (length losses) n (omega arith) (loss-at losses fit)) ∙ take-length losses

-- no bytes have no losses
pub none_came : (l : Losses) → l.count ≡ 0 → Came l
unfolding losses_of loss_count pick list_to
none_came l e = record { file = []; bytes = λ i. omega arith; is = ap (λ (n : ℕ). take n l.list) e }
