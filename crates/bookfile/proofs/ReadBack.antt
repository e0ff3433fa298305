-- Bytes that are read and written back, part by part.
use mathlib.Core.Bool.{true, false}
use mathlib.Core.List.{List, [], ◌∷◌, ◌++◌, append_assoc, append-nil}
use mathlib.Core.Path.{◌≡◌, refl, sym, ap, ap₂, ◌∙◌}
use Prim.Native.Nat.{ℕ, zero, suc, ◌+◌, ◌*◌, ◌/◌, ◌%◌, ◌≤◌, ◌<◌}
use native.Mathlib.Nat.{add-zero}
use native.Mathlib.Omega.{arith}
use borrow.Author.Tests.{leb-true}
use lib.Dec.{eqb, leb}
use lib.ListN.{length, drop, get_or, length-drop, drop_of_length-le}
use lib.Seq.{drop-cons, drop-drop, get_or-drop}
use Rattle.sums.proofs.Choices.{and_left, and_right}
use Rattle.sums.proofs.Lists.{at-list_to}
use Rattle.numbers.specs.Bytes.{number, bytes_of, Bytes}
use Rattle.numbers.proofs.Numbers.{bytes_drop, bytes_of-number, two_at}
use Rattle.table.specs.declared.Table.{Table}
use Rattle.table.specs.Words.{word_at}
use Rattle.bookfile.specs.declared.Version.{Version}
use Rattle.bookfile.specs.declared.Version.TheVariants.{One, Two}
use Rattle.bookfile.specs.Versions.{mark_of, head_of, width_of, place_at, sort_at}
use Rattle.bookfile.specs.Written.{next_part, yes_no, joined, marks_part, amount_part, amounts_part, kept_part, row_part, place_bytes, written_by}
use Rattle.bookfile.specs.Reading.{yes_or_no, is_of, yes_at, book_by}
use Rattle.bookfile.proofs.Joining.{joined-from}
use Rattle.bookfile.proofs.Measures.{all-places, head-within, row_within}
use Rattle.bookfile.proofs.Tests.{book-long, book-marked, book-plain}

-- a number of k bytes that was read at a place
number-back : (k at : ℕ) (s : List ℕ) (x : ℕ) → Bytes s → at + k ≤ length s → x ≡ number k (drop at s) → bytes_of k x ++ drop (at + k) s ≡ drop at s
number-back k at s x y n e =
    ap (λ (z : ℕ). bytes_of k z ++ drop (at + k) s) e
    ∙ ap (λ (l : List ℕ). bytes_of k (number k (drop at s)) ++ l) (sym (drop-drop k at s))
    ∙ bytes_of-number k (drop at s) (bytes_drop at s y) (rw length-drop (omega arith))

-- a yes or a no that was read
yes-back : (b : ℕ) → leb b 1 ≡ true → yes_no (eqb b 1) ≡ b
yes-back zero h = refl
yes-back (suc zero) h = refl
yes-back (suc (suc b)) h = absurd (omega (arith, leb-true (suc (suc b)) 1 h))

-- ---- a place

-- the words of place i, its number aside, are those that s begins with
pub record Stands (t : Table) (i : ℕ) (s : List ℕ) : Type 0 where
  pub sort : get_or t.marks.sort i 0 ≡ get_or s 0 0
  pub live : yes_no (get_or t.marks.live i false) ≡ get_or s 1 0
  pub tm : get_or t.marks.tm i 0 ≡ number 2 (drop 2 s)
  pub amounts : (k : ℕ) → k < 10 → word_at t.amounts k i ≡ number 8 (drop (4 + 8 * k) s)
  pub mode : yes_no (get_or t.modes i false) ≡ get_or s 84 0
  pub need : get_or t.needs i 0 ≡ number 8 (drop 85 s)

module _ (t : Table) (i : ℕ) (s : List ℕ) (y : Bytes s) (n : 93 ≤ length s) (w : Stands t i s) where
  marks-back : marks_part (get_or t.marks.sort i 0) (get_or t.marks.live i false) (get_or t.marks.tm i 0) ++ drop 4 s ≡ s
  marks-back =
      ap (λ (l : List ℕ). get_or t.marks.sort i 0 ∷ yes_no (get_or t.marks.live i false) ∷ l) (number-back 2 2 s (get_or t.marks.tm i 0) y (omega arith) w.tm)
      ∙ ap₂ (λ (a b : ℕ). a ∷ b ∷ drop 2 s) w.sort w.live
      ∙ sym (two_at s 0 (omega arith))

  amounts-back : amounts_part t.amounts i ++ drop 84 s ≡ drop 4 s
  amounts-back =
      joined-from (amount_part t.amounts i) 8 4 10 s
      (λ k l. number-back 8 (4 + 8 * k) s (word_at t.amounts k i) y (omega arith) (w.amounts k l))

  kept_back : kept_part (get_or t.modes i false) (get_or t.needs i 0) ++ drop 93 s ≡ drop 84 s
  kept_back =
      ap₂ (λ (a : ℕ) (l : List ℕ). a ∷ l) w.mode (number-back 8 85 s (get_or t.needs i 0) y (omega arith) w.need)
      ∙ sym (drop-cons s 84 0 (omega arith))

  pub row_back : row_part t i ++ drop 93 s ≡ s
  unfolding row_part
  row_back =
      let marks = marks_part (get_or t.marks.sort i 0) (get_or t.marks.live i false) (get_or t.marks.tm i 0) in
      let amounts = amounts_part t.amounts i in
      let kept = kept_part (get_or t.modes i false) (get_or t.needs i 0) in
      append_assoc marks (amounts ++ kept) (drop 93 s)
      ∙ ap (λ (l : List ℕ). marks ++ l) (append_assoc amounts kept (drop 93 s) ∙ ap (λ (l : List ℕ). amounts ++ l) kept_back ∙ amounts-back)
      ∙ marks-back

-- ---- the whole

module _ (v : Version) (file : List ℕ) (book : is_of v file ≡ true) where
  byte-from : (i k : ℕ) → get_or file (sort_at v i + k) 0 ≡ get_or (drop (sort_at v i) file) k 0
  byte-from i k = sym (get_or-drop (sort_at v i) file k 0)

  bytes-from : (i k : ℕ) → drop (sort_at v i + k) file ≡ drop k (drop (sort_at v i) file)
  bytes-from i k = sym (drop-drop k (sort_at v i) file)

  -- the place that was read stands there
  stands : (i : ℕ) → i < 256 → Stands (book_by v file) i (drop (sort_at v i) file)
  unfolding book_by
  stands i l = record {
    sort = at-list_to (λ j. get_or file (sort_at v j) 0) 256 i 0 l ∙ ap (λ (x : ℕ). get_or file x 0) (sym (add-zero (sort_at v i))) ∙ byte-from i 0;
    live = ap yes_no (at-list_to (λ j. yes_at file (sort_at v j + 1)) 256 i false l) ∙ yes-back _ (and_left (leb (get_or file (sort_at v i + 1) 0) 1) _ plain) ∙ byte-from i 1;
    tm = at-list_to (λ j. number 2 (drop (sort_at v j + 2) file)) 256 i 0 l ∙ ap (number 2) (bytes-from i 2);
    amounts = λ k m. word k m;
    mode = ap yes_no (at-list_to (λ j. yes_at file (sort_at v j + 84)) 256 i false l) ∙ yes-back _ (and_right (leb (get_or file (sort_at v i + 1) 0) 1) _ plain) ∙ byte-from i 84;
    need = at-list_to (λ j. number 8 (drop (sort_at v j + 85) file)) 256 i 0 l ∙ ap (number 8) (bytes-from i 85);
  }
    where
      plain : yes_or_no v file i ≡ true
      plain = book-plain v file book i l

      word : (k : ℕ) → k < 10 → word_at (book_by v file).amounts k i ≡ number 8 (drop (4 + 8 * k) (drop (sort_at v i) file))
      word k m =
          let place : (256 * k + i) % 256 ≡ i = omega arith in
          let amount : (256 * k + i) / 256 ≡ k = omega arith in
          at-list_to (λ n. number 8 (drop (sort_at v (n % 256) + (4 + 8 * (n / 256))) file)) 2560 (256 * k + i) 0 (omega arith)
          ∙ ap₂ (λ (a b : ℕ). number 8 (drop (sort_at v a + (4 + 8 * b)) file)) place amount
          ∙ ap (number 8) (bytes-from i (4 + 8 * k))

  row-at : Bytes file → (i : ℕ) → i < 256 → row_part (book_by v file) i ++ drop 93 (drop (sort_at v i) file) ≡ drop (sort_at v i) file
  row-at y i l =
      let long = book-long v file book in
      let within = row_within v i l in
      row_back (book_by v file) i (drop (sort_at v i) file) (bytes_drop (sort_at v i) file y) (rw length-drop (omega arith)) (stands i l)

  mark-back : mark_of v ++ drop 4 file ≡ file
  mark-back =
      let long = book-long v file book in
      let head = head-within v in
      let is = book-marked v file book in
      ap₂ (λ (a b : ℕ). 76 ∷ 86 ∷ a ∷ b ∷ drop 4 file) (sym (is 2 (omega arith))) (sym (is 3 (omega arith)))
      ∙ ap (λ (l : List ℕ). 76 ∷ 86 ∷ l) (sym (two_at file 2 (omega arith)))
      ∙ ap₂ (λ (a b : ℕ). a ∷ b ∷ drop 2 file) (sym (is 0 (omega arith))) (sym (is 1 (omega arith)))
      ∙ sym (two_at file 0 (omega arith))

number_read : (file : List ℕ) (i : ℕ) → i < 256 → get_or (book_by Two file).numbers i 0 ≡ number 2 (drop (place_at Two i) file)
unfolding book_by
number_read file i l = at-list_to (λ j. number 2 (drop (place_at Two j) file)) 256 i 0 l

-- place i, with its number if it has one
place-back : (v : Version) (file : List ℕ) → is_of v file ≡ true → Bytes file → (i : ℕ) → i < 256
    → place_bytes v (book_by v file) i ++ drop (place_at v i + width_of v) file ≡ drop (place_at v i) file
unfolding place_bytes
place-back One file book y i l = ap (λ (s : List ℕ). row_part (book_by One file) i ++ s) (bytes-from One file book i 93) ∙ row-at One file book y i l
place-back Two file book y i l =
    let b = book_by Two file in
    let n = bytes_of 2 (get_or b.numbers i 0) in
    let long = book-long Two file book in
    let e : place_at Two i + 95 ≡ sort_at Two i + 93 = omega arith in
    append_assoc n (row_part b i) (drop (place_at Two i + 95) file)
    ∙ ap (λ (k : ℕ). n ++ (row_part b i ++ drop k file)) e
    ∙ ap (λ (s : List ℕ). n ++ (row_part b i ++ s)) (bytes-from Two file book i 93)
    ∙ ap (λ (s : List ℕ). n ++ s) (row-at Two file book y i l)
    ∙ number-back 2 (place_at Two i) file (get_or b.numbers i 0) y (omega arith) (number_read file i l)

next-back : (v : Version) (file : List ℕ) → is_of v file ≡ true → Bytes file → next_part v (book_by v file).next ++ drop (head_of v) file ≡ drop 8 file
unfolding book_by
next-back One file book y = refl
next-back Two file book y = let long = book-long Two file book in number-back 4 8 file (number 4 (drop 8 file)) y (omega arith) refl

module _ (v : Version) (file : List ℕ) (book : is_of v file ≡ true) (y : Bytes file) where
  places-back : joined (place_bytes v (book_by v file)) 256 ≡ drop (head_of v) file
  places-back =
      let places = joined (place_bytes v (book_by v file)) 256 in
      let long = book-long v file book in
      let all = all-places v in
      let none : drop (head_of v + width_of v * 256) file ≡ [] = drop_of_length-le file {i = head_of v + width_of v * 256} (omega arith) in
      sym (append-nil places)
      ∙ ap (λ (l : List ℕ). places ++ l) (sym none)
      ∙ joined-from (place_bytes v (book_by v file)) (width_of v) (head_of v) 256 file (place-back v file book y)

  pub book-back : written_by v (book_by v file) ≡ file
  unfolding written_by book_by
  book-back =
      let long = book-long v file book in
      let head = head-within v in
      let count = bytes_of 2 (number 2 (drop 4 file)) in
      let serial = bytes_of 2 (number 2 (drop 6 file)) in
      let next = next_part v (book_by v file).next in
      let rest = drop (head_of v) file in
      ap (λ (l : List ℕ). (mark_of v ++ (count ++ (serial ++ next))) ++ l) places-back
      ∙ ap (λ (l : List ℕ). mark_of v ++ l)
      (append_assoc count (serial ++ next) rest
      ∙ ap (λ (l : List ℕ). count ++ l)
      (append_assoc serial next rest
      ∙ ap (λ (l : List ℕ). serial ++ l) (next-back v file book y)
      ∙ number-back 2 6 file (number 2 (drop 6 file)) y (omega arith) refl)
      ∙ number-back 2 4 file (number 2 (drop 4 file)) y (omega arith) refl)
      ∙ mark-back v file book
