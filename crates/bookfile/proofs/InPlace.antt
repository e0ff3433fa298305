-- What stands where in a book's written form.
use mathlib.Core.Bool.{Bool, true, false}
use mathlib.Core.List.{List, [], ◌++◌, append_assoc, append-nil}
use mathlib.Core.Path.{◌≡◌, refl, sym, ap, ◌∙◌}
use Prim.Native.Nat.{ℕ, ◌+◌, ◌*◌, ◌<◌}
use lib.Dec.{eqb, leb}
use lib.ListN.{drop, get_or}
use lib.Seq.{drop-append-add, drop_at, drop-drop, get_or-drop}
use Rattle.numbers.specs.Bytes.{number, bytes_of}
use Rattle.numbers.proofs.Numbers.{length-bytes_of, number-bytes_of}
use Rattle.table.specs.declared.Table.{Table}
use Rattle.table.specs.Words.{word_at}
use Rattle.bookfile.specs.declared.Version.{Version}
use Rattle.bookfile.specs.declared.Version.TheVariants.{One, Two}
use Rattle.bookfile.specs.Versions.{width_of, place_at, sort_at}
use Rattle.bookfile.specs.Written.{next_part, head_part, yes_no, joined, marks_part, amount_part, amounts_part, kept_part, row_part, place_bytes, written_by}
use Rattle.bookfile.specs.Facts.{Fits}
use Rattle.bookfile.proofs.Joining.{joined_at}
use Rattle.bookfile.proofs.Parts.{length-head, length-marks, length-amount, length-amounts, length-place}

-- a yes or a no, written and read
pub yes-no : (b : Bool) → eqb (yes_no b) 1 ≡ b
yes-no true = refl
yes-no false = refl

pub yes_or_no_lem : (b : Bool) → leb (yes_no b) 1 ≡ true
yes_or_no_lem true = refl
yes_or_no_lem false = refl

-- ---- within a place from the sort on, whatever follows it

module _ (t : Table) (i : ℕ) (r : List ℕ) where
  marks_then : drop 4 (row_part t i ++ r) ≡ amounts_part t.amounts i ++ (kept_part (get_or t.modes i false) (get_or t.needs i 0) ++ r)
  unfolding row_part
  marks_then =
      let marks = marks_part (get_or t.marks.sort i 0) (get_or t.marks.live i false) (get_or t.marks.tm i 0) in
      let kept = kept_part (get_or t.modes i false) (get_or t.needs i 0) in
      ap (drop 4) (append_assoc marks (amounts_part t.amounts i ++ kept) r)
      ∙ drop_at marks ((amounts_part t.amounts i ++ kept) ++ r) 4 (length-marks (get_or t.marks.sort i 0) (get_or t.marks.live i false) (get_or t.marks.tm i 0))
      ∙ append_assoc (amounts_part t.amounts i) kept r

  amounts-then : drop 84 (row_part t i ++ r) ≡ kept_part (get_or t.modes i false) (get_or t.needs i 0) ++ r
  amounts-then =
      sym (drop-drop 80 4 (row_part t i ++ r)) ∙ ap (drop 80) marks_then ∙ drop_at (amounts_part t.amounts i) _ 80 (length-amounts t.amounts i)

  pub sort-in : get_or (row_part t i ++ r) 0 0 ≡ get_or t.marks.sort i 0
  unfolding row_part
  sort-in = refl

  pub live_in : get_or (row_part t i ++ r) 1 0 ≡ yes_no (get_or t.marks.live i false)
  unfolding row_part
  live_in = refl

  pub mode-in : get_or (row_part t i ++ r) 84 0 ≡ yes_no (get_or t.modes i false)
  mode-in = sym (get_or-drop 84 (row_part t i ++ r) 0 0) ∙ ap (λ (l : List ℕ). get_or l 0 0) amounts-then

  module _ (f : Fits t) where
    pub tm-in : number 2 (drop 2 (row_part t i ++ r)) ≡ get_or t.marks.tm i 0
    unfolding row_part
    tm-in =
        let tm = bytes_of 2 (get_or t.marks.tm i 0) in
        let rest = amounts_part t.amounts i ++ kept_part (get_or t.modes i false) (get_or t.needs i 0) in
        ap (number 2) (append_assoc tm rest r) ∙ number-bytes_of 2 (get_or t.marks.tm i 0) (rest ++ r) (f.tm i)

    pub amount-in : (k : ℕ) → k < 10 → number 8 (drop (4 + 8 * k) (row_part t i ++ r)) ≡ word_at t.amounts k i
    amount-in k l =
        ap (number 8)
        (sym (drop-drop (8 * k) 4 (row_part t i ++ r))
        ∙ ap (drop (8 * k)) marks_then
        ∙ joined_at (amount_part t.amounts i) 8 (length-amount t.amounts i) 10 k _ l)
        ∙ number-bytes_of 8 (word_at t.amounts k i) _ (f.amount (256 * k + i))

    pub need-in : number 8 (drop 85 (row_part t i ++ r)) ≡ get_or t.needs i 0
    need-in =
        ap (number 8) (sym (drop-drop 1 84 (row_part t i ++ r)) ∙ ap (drop 1) amounts-then)
        ∙ number-bytes_of 8 (get_or t.needs i 0) r (f.need i)

-- ---- in the whole form

module _ (v : Version) (t : Table) where
  -- what stands behind place i
  abbrev behind : ℕ → List ℕ
  behind i = drop (width_of v * i + width_of v) (joined (place_bytes v t) 256)

  -- what stands from the sort of place i on
  abbrev pub from : ℕ → List ℕ
  from i = row_part t i ++ behind i

  place_at_lem : (i : ℕ) → i < 256 → drop (place_at v i) (written_by v t) ≡ place_bytes v t i ++ behind i
  unfolding written_by
  place_at_lem i l =
      let head = head_part v t.count t.serial t.next in
      let places = joined (place_bytes v t) 256 in
      ap (λ (k : ℕ). drop (k + width_of v * i) (head ++ places)) (sym (length-head v t.count t.serial t.next))
      ∙ drop-append-add head places (width_of v * i)
      ∙ rw (append-nil places) at (joined_at (place_bytes v t) (width_of v) (length-place v t) 256 i [] l)

  pub count_at : Fits t → number 2 (drop 4 (written_by v t)) ≡ t.count
  unfolding written_by
  count_at f =
      let rest = bytes_of 2 t.serial ++ next_part v t.next in
      ap (number 2) (append_assoc (bytes_of 2 t.count) rest (joined (place_bytes v t) 256)) ∙ number-bytes_of 2 t.count _ f.count

  serial-then : drop 6 (written_by v t) ≡ bytes_of 2 t.serial ++ (next_part v t.next ++ joined (place_bytes v t) 256)
  unfolding written_by
  serial-then =
      let count = bytes_of 2 t.count in
      let serial = bytes_of 2 t.serial in
      let next = next_part v t.next in
      let places = joined (place_bytes v t) 256 in
      ap (drop 2) (append_assoc count (serial ++ next) places)
      ∙ drop_at count ((serial ++ next) ++ places) 2 (length-bytes_of 2 t.count)
      ∙ append_assoc serial next places

  pub serial-at : Fits t → number 2 (drop 6 (written_by v t)) ≡ t.serial
  serial-at f = ap (number 2) serial-then ∙ number-bytes_of 2 t.serial _ f.serial

-- the sort of place i stands behind its number, if it has one
pub sort-at : (v : Version) (t : Table) (i : ℕ) → i < 256 → drop (sort_at v i) (written_by v t) ≡ from v t i
unfolding place_bytes
sort-at One t i l = place_at_lem One t i l
sort-at Two t i l =
    let n = bytes_of 2 (get_or t.numbers i 0) in
    sym (drop-drop 2 (place_at Two i) (written_by Two t))
    ∙ ap (drop 2) (place_at_lem Two t i l ∙ append_assoc n (row_part t i) (behind Two t i))
    ∙ drop_at n (from Two t i) 2 (length-bytes_of 2 (get_or t.numbers i 0))

module _ (v : Version) (t : Table) where
  pub byte_at : (i k : ℕ) → i < 256 → get_or (written_by v t) (sort_at v i + k) 0 ≡ get_or (from v t i) k 0
  byte_at i k l = sym (get_or-drop (sort_at v i) (written_by v t) k 0) ∙ ap (λ (s : List ℕ). get_or s k 0) (sort-at v t i l)

  pub bytes-at : (i k : ℕ) → i < 256 → drop (sort_at v i + k) (written_by v t) ≡ drop k (from v t i)
  bytes-at i k l = sym (drop-drop k (sort_at v i) (written_by v t)) ∙ ap (drop k) (sort-at v t i l)

module _ (t : Table) (f : Fits t) where
  pub next-at : number 4 (drop 8 (written_by Two t)) ≡ t.next
  next-at =
      let serial = bytes_of 2 t.serial in
      let rest = bytes_of 4 t.next ++ joined (place_bytes Two t) 256 in
      ap (number 4) (sym (drop-drop 2 6 (written_by Two t)) ∙ ap (drop 2) (serial-then Two t) ∙ drop_at serial rest 2 (length-bytes_of 2 t.serial))
      ∙ number-bytes_of 4 t.next _ f.next

  pub number_at : (i : ℕ) → i < 256 → number 2 (drop (place_at Two i) (written_by Two t)) ≡ get_or t.numbers i 0
  unfolding place_bytes
  number_at i l =
      let n = get_or t.numbers i 0 in
      ap (number 2) (place_at_lem Two t i l ∙ append_assoc (bytes_of 2 n) (row_part t i) (behind Two t i)) ∙ number-bytes_of 2 n _ (f.number i)
