-- The parts of a written form, put into a room one after another.
use mathlib.Core.Bool.{Bool, true, false}
use mathlib.Core.List.{List, ◌∷◌, ◌++◌, append-nil}
use mathlib.Core.Path.{◌≡◌, refl, sym, ap, ap₂, ◌∙◌}
use Prim.Native.Nat.{ℕ, ◌+◌, ◌-◌}
use native.Mathlib.Numerals.{add-one}
use native.Mathlib.Omega.{arith}
use lib.ListN.{length, set, get_or, length-append, drop_of_length-le}
use lib.Seq.{sets, sets-eq}
use Rattle.numbers.specs.Bytes.{bytes_of}
use Rattle.numbers.proofs.Numbers.{length-bytes_of}
use Rattle.numbers.proofs.Rooms.{sets-append}
use Rattle.table.specs.declared.Table.{Table}
use Rattle.bookfile.specs.declared.Version.{Version}
use Rattle.bookfile.specs.declared.Version.TheVariants.{One, Two}
use Rattle.bookfile.specs.Versions.{size_of, head_of, width_of}
use Rattle.bookfile.specs.Written.{size, head_part, yes_no, joined, marks_part, amount_part, amounts_part, kept_part, row_part, place_bytes, written_by, written_of}
use Rattle.bookfile.proofs.Joining.{length-joined}
use Rattle.bookfile.proofs.Measures.{all-places}
use Rattle.std.specs.Int.{from_bool}

-- a yes or a no as the byte that stands for it
pub yes-byte : (b : Bool) → from_bool b ≡ yes_no b
yes-byte true = refl
yes-byte false = refl

-- one run, and another one where it ended
pub put_then : (l m n x y : List ℕ) (at k : ℕ) → m ≡ sets l at x → n ≡ sets m (at + k) y → length x ≡ k → n ≡ sets l at (x ++ y)
put_then l m n x y at k p q w =
    q ∙ ap (λ (r : List ℕ). sets r (at + k) y) p ∙ ap (λ (j : ℕ). sets (sets l at x) (at + j) y) (sym w) ∙ sets-append x y l at

-- a byte, and a run behind it
pub put_one : (l m rest : List ℕ) (at : ℕ) {a b : ℕ} → a ≡ b → m ≡ sets (set l at a) (at + 1) rest → m ≡ sets l at (b ∷ rest)
put_one l m rest at e h = rw (e, add-one) at h

pub put_two : (l m rest : List ℕ) (at a : ℕ) {b c : ℕ} → b ≡ c → m ≡ sets (set (set l at a) (at + 1) b) (at + 2) rest → m ≡ sets l at (a ∷ c ∷ rest)
put_two l m rest at a {c = c} e h =
    let k : at + 2 ≡ at + 1 + 1 = omega arith in
    put_one l m (c ∷ rest) at {a = a} refl (put_one (set l at a) m rest (at + 1) e (rw k at h))

-- ---- how long they are

pub length-amount : (amounts : List ℕ) (i k : ℕ) → length (amount_part amounts i k) ≡ 8
length-amount amounts i k = length-bytes_of 8 _

pub length-amounts : (amounts : List ℕ) (i : ℕ) → length (amounts_part amounts i) ≡ 80
length-amounts amounts i = length-joined (amount_part amounts i) 8 (length-amount amounts i) 10

pub length-marks : (sort : ℕ) (live : Bool) (tm : ℕ) → length (marks_part sort live tm) ≡ 4
length-marks sort live tm = omega (arith, length-bytes_of 2 tm)

pub length-kept : (mode : Bool) (need : ℕ) → length (kept_part mode need) ≡ 9
length-kept mode need = omega (arith, length-bytes_of 8 need)

pub length-head : (v : Version) (count serial next : ℕ) → length (head_part v count serial next) ≡ head_of v
length-head One count serial next = simp (length-append, length-bytes_of)
length-head Two count serial next = simp (length-append, length-bytes_of)

pub length-row : (t : Table) (i : ℕ) → length (row_part t i) ≡ 93
unfolding row_part
length-row t i = simp (length-append, length-marks, length-amounts, length-kept)

pub length-place : (v : Version) (t : Table) (i : ℕ) → length (place_bytes v t i) ≡ width_of v
unfolding place_bytes
length-place One t i = length-row t i
length-place Two t i = simp (length-append, length-bytes_of, length-row)

pub length-written : (v : Version) (t : Table) → length (written_by v t) ≡ size_of v
unfolding written_by
length-written v t =
    length-append (head_part v t.count t.serial t.next) (joined (place_bytes v t) 256)
    ∙ ap₂ (λ (a b : ℕ). a + b) (length-head v t.count t.serial t.next) (length-joined (place_bytes v t) (width_of v) (length-place v t) 256)
    ∙ all-places v

-- ---- put one after another

module _ (t : Table) where
  -- what stands in a place from the sort on
  put-row : (l m n r : List ℕ) (at i : ℕ) → m ≡ sets l at (marks_part (get_or t.marks.sort i 0) (get_or t.marks.live i false) (get_or t.marks.tm i 0))
      → n ≡ sets m (at + 4) (amounts_part t.amounts i) → r ≡ sets n (at + 84) (kept_part (get_or t.modes i false) (get_or t.needs i 0)) → r ≡ sets l at (row_part t i)
  unfolding row_part
  put-row l m n r at i p q h =
      let marks = marks_part (get_or t.marks.sort i 0) (get_or t.marks.live i false) (get_or t.marks.tm i 0) in
      let kept = kept_part (get_or t.modes i false) (get_or t.needs i 0) in
      let e : at + 84 ≡ at + 4 + 80 = omega arith in
      let rest : r ≡ sets m (at + 4) (amounts_part t.amounts i ++ kept) =
      put_then m n r (amounts_part t.amounts i) kept (at + 4) 80 q (h ∙ ap (λ (k : ℕ). sets n k kept) e) (length-amounts t.amounts i) in
      put_then l m r marks (amounts_part t.amounts i ++ kept) at 4 p rest (length-marks (get_or t.marks.sort i 0) (get_or t.marks.live i false) (get_or t.marks.tm i 0))

  -- a number, and the rest of the place behind it
  pub put-place : (k l m n r : List ℕ) (at s i : ℕ) → s ≡ at + 2 → l ≡ sets k (s - 2) (bytes_of 2 (get_or t.numbers i 0))
      → m ≡ sets l s (marks_part (get_or t.marks.sort i 0) (get_or t.marks.live i false) (get_or t.marks.tm i 0)) → n ≡ sets m (s + 4) (amounts_part t.amounts i)
      → r ≡ sets n (s + 84) (kept_part (get_or t.modes i false) (get_or t.needs i 0)) → r ≡ sets k at (place_bytes Two t i)
  unfolding place_bytes
  put-place k l m n r at s i e o p q h =
      let number = bytes_of 2 (get_or t.numbers i 0) in
      let d : s - 2 ≡ at = omega arith in
      put_then k l r number (row_part t i) at 2 (o ∙ ap (λ (j : ℕ). sets k j number) d) (put-row l m n r s i p q h ∙ ap (λ (j : ℕ). sets l j (row_part t i)) e) (length-bytes_of 2 (get_or t.numbers i 0))

  -- the head, and all places behind it, in a room that is as long
  pub put_written : (l m n : List ℕ) → length l ≡ size → m ≡ sets l 0 (head_part Two t.count t.serial t.next) → n ≡ sets m 12 (joined (place_bytes Two t) 256) → n ≡ written_of t
  unfolding written_by
  put_written l m n long p q =
      let head = head_part Two t.count t.serial t.next in
      let whole = head ++ joined (place_bytes Two t) 256 in
      let e : length whole ≡ size = length-written Two t in
      put_then l m n head (joined (place_bytes Two t) 256) 0 12 p q (length-head Two t.count t.serial t.next)
      ∙ sets-eq whole l 0 (omega arith)
      ∙ ap (λ (x : List ℕ). whole ++ x) (drop_of_length-le l {i = 0 + length whole} (omega arith))
      ∙ append-nil whole
