-- A book's written form has bytes alone.
use mathlib.Core.Bool.{Bool, true, false}
use mathlib.Core.List.{List, [], ◌∷◌, ◌++◌}
use Prim.Native.Nat.{ℕ, zero, suc, ◌/◌, ◌%◌, ◌^◌, ◌<◌}
use native.Mathlib.Omega.{arith}
use lib.ListN.{get_or}
use Rattle.numbers.specs.Bytes.{bytes_of, Bytes}
use Rattle.table.specs.declared.Table.{Table}
use Rattle.bookfile.specs.Written.{head_part, yes_no, joined, marks_part, amount_part, amounts_part, kept_part, row_part, place_bytes, written_by, written_of}
use Rattle.bookfile.specs.declared.Version.TheVariants.{Two}
use Rattle.bookfile.specs.Versions.{mark_of}
use Rattle.bookfile.specs.Facts.{Fits}

bytes-none : Bytes []
bytes-none i = omega arith

bytes-more : (b : ℕ) (l : List ℕ) → b < 256 → Bytes l → Bytes (b ∷ l)
bytes-more b l h t zero = h
bytes-more b l h t (suc i) = t i

bytes-append : (a b : List ℕ) → Bytes a → Bytes b → Bytes (a ++ b)
bytes-append [] b h t = t
bytes-append (x ∷ a) b h t = bytes-more x (a ++ b) (h 0) (bytes-append a b (λ i. h (suc i)) t)

bytes-number : (k x : ℕ) → Bytes (bytes_of k x)
unfolding bytes_of
bytes-number zero x = bytes-none
bytes-number (suc k) x = bytes-more (x / 256 ^ k % 256) (bytes_of k x) (omega arith) (bytes-number k x)

bytes-joined : (f : ℕ → List ℕ) → ((i : ℕ) → Bytes (f i)) → (n : ℕ) → Bytes (joined f n)
unfolding joined
bytes-joined f h zero = bytes-none
bytes-joined f h (suc n) = bytes-append (joined f n) (f n) (bytes-joined f h n) (h n)

yes-no-byte : (b : Bool) → yes_no b < 256
yes-no-byte true = omega arith
yes-no-byte false = omega arith

bytes-mark : Bytes (mark_of Two)
bytes-mark =
    bytes-more 76 (86 ∷ 66 ∷ 2 ∷ []) (omega arith)
    (bytes-more 86 (66 ∷ 2 ∷ []) (omega arith) (bytes-more 66 (2 ∷ []) (omega arith) (bytes-more 2 [] (omega arith) bytes-none)))

bytes-head : (count serial next : ℕ) → Bytes (head_part Two count serial next)
bytes-head count serial next =
    bytes-append (mark_of Two) (bytes_of 2 count ++ (bytes_of 2 serial ++ bytes_of 4 next)) bytes-mark
    (bytes-append (bytes_of 2 count) (bytes_of 2 serial ++ bytes_of 4 next) (bytes-number 2 count)
    (bytes-append (bytes_of 2 serial) (bytes_of 4 next) (bytes-number 2 serial) (bytes-number 4 next)))

bytes-marks : (sort : ℕ) (live : Bool) (tm : ℕ) → sort < 256 → Bytes (marks_part sort live tm)
bytes-marks sort live tm h = bytes-more sort (yes_no live ∷ bytes_of 2 tm) h (bytes-more (yes_no live) (bytes_of 2 tm) (yes-no-byte live) (bytes-number 2 tm))

bytes-amounts : (amounts : List ℕ) (i : ℕ) → Bytes (amounts_part amounts i)
bytes-amounts amounts i = bytes-joined (amount_part amounts i) (λ k. bytes-number 8 _) 10

bytes-kept : (mode : Bool) (need : ℕ) → Bytes (kept_part mode need)
bytes-kept mode need = bytes-more (yes_no mode) (bytes_of 8 need) (yes-no-byte mode) (bytes-number 8 need)

module _ (t : Table) (f : Fits t) where
  bytes-row : (i : ℕ) → Bytes (row_part t i)
  unfolding row_part
  bytes-row i =
      let marks = marks_part (get_or t.marks.sort i 0) (get_or t.marks.live i false) (get_or t.marks.tm i 0) in
      let amounts = amounts_part t.amounts i in
      let kept = kept_part (get_or t.modes i false) (get_or t.needs i 0) in
      bytes-append marks (amounts ++ kept) (bytes-marks (get_or t.marks.sort i 0) (get_or t.marks.live i false) (get_or t.marks.tm i 0) (f.sort i))
      (bytes-append amounts kept (bytes-amounts t.amounts i) (bytes-kept (get_or t.modes i false) (get_or t.needs i 0)))

  bytes-place : (i : ℕ) → Bytes (place_bytes Two t i)
  unfolding place_bytes
  bytes-place i = bytes-append (bytes_of 2 (get_or t.numbers i 0)) (row_part t i) (bytes-number 2 (get_or t.numbers i 0)) (bytes-row i)

  pub bytes-written : Bytes (written_of t)
  unfolding written_by
  bytes-written =
      bytes-append (head_part Two t.count t.serial t.next) (joined (place_bytes Two t) 256) (bytes-head t.count t.serial t.next)
      (bytes-joined (place_bytes Two t) bytes-place 256)
