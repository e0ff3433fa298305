-- The test of refusal 1 holds exactly of a sound book.
use mathlib.Core.Path.{◌≡◌, refl, sym, ◌∙◌, ap}
use mathlib.Core.Bool.{true, false, not, ◌&&◌, ◌||◌}
use mathlib.Core.List.{List}
use mathlib.Core.Logic.{◌⊎◌, inl, inr, ⊎_elim}
use Prim.Native.Nat.{ℕ, ◌≤◌, ◌<◌}
use native.Mathlib.Omega.{arith}
use native.Mathlib.Decide.{ℕ_discrete, dec_lt}
use lib.Dec.{eqb, ltb}
use lib.ListN.{get_or}
use borrow.Author.Tests.{eqb-true, eq-eqb, ne_eqb, leb-true, le-leb, ltb-true, lt-ltb, le-ltb, not-false}
use Rattle.sums.specs.Choice.{pick}
use Rattle.sums.proofs.Sums.{all-at, all_from}
use Rattle.sums.proofs.Choices.{pick_yes, pick_no, and_left, and_right, and-join, or_split, or_else, or_from, or_left, or_right}
use Rattle.rows.specs.declared.Row.{Row}
use Rattle.rows.specs.declared.Rule.TheVariants.{New}
use Rattle.rows.specs.declared.Book.{Book}
use Rattle.rows.specs.View.{View}
use Rattle.rows.specs.Rows.{no_row, row_at, mode_at, places, view}
use Rattle.rows.specs.Ranges.{no_amounts, in_range}
use Rattle.rows.specs.Facts.{Shaped, InRange, NeedsKept}
use Rattle.rows.specs.KeptNeeds.{kept_need, all_kept}
use Rattle.book.specs.Sound.{is_blank, is_top, good_client, good_sort, good_retired, good_row, row_sound, mode_sound, numbers_sound, formed_b, kept_by, sound_b}
use Rattle.book.specs.Facts.{SoundRows, MayBeOn, Sound}
use Rattle.rows.proofs.RowPut.{row-far}
use Rattle.book.proofs.Settled.{with_rest}
use Rattle.book.proofs.NumbersTest.{numbers→, numbers←}
use Rattle.book.proofs.RowFacts.{range→, range←, blank→, blank←, mode→, mode←}

-- "a client whose TM is a lower-numbered TM row. A live client's TM is live."
record GoodClient (i : ℕ) (r t : Row) : Type 0 where
  sort : r.sort ≡ 2
  lower : r.tm < i
  its-tm : t.sort ≡ 1
  tm-live : r.live ≡ true → t.live ≡ true

-- "Every other account is a TM, a CP, or a client"
data GoodSort (i : ℕ) (r t : Row) : Type 0 where
  tm : r.sort ≡ 1 → r.tm ≡ 0 → GoodSort i r t
  cp : r.sort ≡ 3 → r.tm ≡ 0 → GoodSort i r t
  client : GoodClient i r t → GoodSort i r t

module _ (i : ℕ) (r t : Row) where
  client→ : good_client i r t ≡ true → GoodClient i r t
  client→ e = record {
    sort = search (and_left, and_right, eqb-true);
    lower = search (and_left, and_right, ltb-true);
    its-tm = search (and_left, and_right, eqb-true);
    tm-live = λ p. or_else (not r.live) t.live (search (and_left, and_right)) (ap not p);
  }

  client← : GoodClient i r t → good_client i r t ≡ true
  client← h =
      and-join (and-join (and-join (eq-eqb _ _ h.sort) (lt-ltb _ _ h.lower)) (eq-eqb _ _ h.its-tm))
      (or_from (not r.live) t.live (λ q. h.tm-live (not-false _ q)))

  sort→ : good_sort i r t ≡ true → GoodSort i r t
  sort→ e = ⊎_elim plain (λ c. client (client→ c)) (or_split ((eqb r.sort 1 || eqb r.sort 3) && eqb r.tm 0) (good_client i r t) e)
    where
      plain : ((eqb r.sort 1 || eqb r.sort 3) && eqb r.tm 0) ≡ true → GoodSort i r t
      plain h =
          let z : r.tm ≡ 0 = search (and_left, and_right, eqb-true) in
          ⊎_elim (λ q. tm (eqb-true _ _ q) z) (λ q. cp (eqb-true _ _ q) z)
          (or_split (eqb r.sort 1) (eqb r.sort 3) (search and_left))

  sort← : GoodSort i r t → good_sort i r t ≡ true
  sort← (tm c z) = or_left (good_client i r t) (and-join (or_left (eqb r.sort 3) (eq-eqb _ _ c)) (eq-eqb _ _ z))
  sort← (cp c z) = or_left (good_client i r t) (and-join (or_right (eqb r.sort 1) (eq-eqb _ _ c)) (eq-eqb _ _ z))
  sort← (client h) = or_right ((eqb r.sort 1 || eqb r.sort 3) && eqb r.tm 0) (client← h)

-- a sound book's row, by its place
module _ (b : Book) (i : ℕ) where
  abbrev r : Row
  r = row_at b i

  abbrev t : Row
  t = row_at b r.tm

  row-beyond : row_sound b i ≡ true → b.count ≤ i → r ≡ no_row
  unfolding row_sound good_row
  row-beyond e l = blank→ r (sym (pick_no (ltb i b.count) _ (is_blank r) (le-ltb _ _ l)) ∙ e)

  row_below : row_sound b i ≡ true → i < b.count → (pick (eqb i 0) (is_top r) (good_sort i r t) && good_retired r && in_range r) ≡ true
  unfolding row_sound good_row
  row_below e l = sym (pick_yes (ltb i b.count) _ (is_blank r) (lt-ltb _ _ l)) ∙ e

  row-top : row_sound b i ≡ true → i < b.count → i ≡ 0 → is_top r ≡ true
  row-top e l z =
      sym (pick_yes (eqb i 0) (is_top r) (good_sort i r t) (eq-eqb _ _ z)) ∙ and_left _ _ (and_left _ _ (row_below e l))

  row-sort : row_sound b i ≡ true → i < b.count → (i ≡ 0 → ⊥) → GoodSort i r t
  row-sort e l z =
      sort→ i r t (sym (pick_no (eqb i 0) (is_top r) (good_sort i r t) (ne_eqb _ _ z)) ∙ and_left _ _ (and_left _ _ (row_below e l)))

  row-retired : row_sound b i ≡ true → i < b.count → r.live ≡ false → no_amounts r ≡ true
  row-retired e l = let h = row_below e l in or_else r.live (no_amounts r) (search (and_left, and_right))

  row-ranges : row_sound b i ≡ true → i < b.count → InRange r
  row-ranges e l = let h = row_below e l in range→ r (search and_right)

  row← : Sound b → row_sound b i ≡ true
  unfolding row_sound good_row
  row← s = by (dec_lt i b.count)
    where
      top : is_top (row_at b 0) ≡ true
      top =
          and-join (and-join (eq-eqb _ _ s.shaped.top) s.top-live)
          (eq-eqb _ _ (s.no-tm 0 s.shaped.some (λ q. absurd (omega arith))))

      good : i < b.count → (i ≡ 0 → ⊥) → GoodSort i r t
      good l z =
          ⊎_elim (λ c. tm c (s.no-tm i l (λ q. absurd (omega arith))))
          (⊎_elim (λ c. client (record { sort = c; lower = (s.shaped.tms i l c).0; its-tm = (s.shaped.tms i l c).1; tm-live = s.tm-live i l c }))
          (λ c. cp c (s.no-tm i l (λ q. absurd (omega arith)))))
          (s.shaped.sorts i (omega arith) l)

      sorted : i < b.count → Dec (i ≡ 0) → pick (eqb i 0) (is_top r) (good_sort i r t) ≡ true
      sorted l (yes z) = pick_yes (eqb i 0) (is_top r) (good_sort i r t) (eq-eqb _ _ z) ∙ rw z top
      sorted l (no z) = pick_no (eqb i 0) (is_top r) (good_sort i r t) (ne_eqb _ _ z) ∙ sort← i r t (good l z)

      by : Dec (i < b.count) → row_sound b i ≡ true
      by (yes l) =
          pick_yes (ltb i b.count) _ (is_blank r) (lt-ltb _ _ l)
          ∙ and-join (and-join (sorted l (ℕ_discrete i 0)) (or_from r.live (no_amounts r) (s.retired i l))) (range← r (s.ranges i l))
      by (no l) = pick_no (ltb i b.count) _ (is_blank r) (le-ltb i b.count (omega arith)) ∙ blank← r (s.blank i (omega arith))

-- past the tests of the number and of every row
module _ (b : Book) (some : 0 < b.count) (most : b.count ≤ 256) (table : places b ≡ 256) (row : (i : ℕ) → i < 256 → row_sound b i ≡ true) where
  top : ((row_at b 0).sort ≡ 0) × ((row_at b 0).live ≡ true) × ((row_at b 0).tm ≡ 0)
  top = let h = row-top b 0 (row 0 (omega arith)) some refl in search (and_left, and_right, eqb-true)

  beyond : (i : ℕ) → b.count ≤ i → Dec (i < 256) → row_at b i ≡ no_row
  beyond i h (yes l) = row-beyond b i (row i l) h
  beyond i h (no l) = row-far b i (omega (arith, table))

  pub blank-beyond : (i : ℕ) → b.count ≤ i → row_at b i ≡ no_row
  blank-beyond i l = beyond i l (dec_lt i 256)

  good : (i : ℕ) → i < b.count → (i ≡ 0 → ⊥) → GoodSort i (row_at b i) (row_at b (row_at b i).tm)
  good i l z = row-sort b i (row i (omega (arith, most))) l z

  sorts : {i : ℕ} {r t : Row} → GoodSort i r t → (r.sort ≡ 1) ⊎ ((r.sort ≡ 2) ⊎ (r.sort ≡ 3))
  sorts (tm c z) = inl c
  sorts (cp c z) = inr (inr c)
  sorts (client h) = inr (inl h.sort)

  only-client : {i : ℕ} {r t : Row} → r.sort ≡ 2 → GoodSort i r t → GoodClient i r t
  only-client c (tm d z) = absurd (omega arith)
  only-client c (cp d z) = absurd (omega arith)
  only-client c (client h) = h

  not_top : (i : ℕ) → (row_at b i).sort ≡ 2 → i ≡ 0 → ⊥
  not_top i c z = omega (arith, top.0, ap (λ j. (row_at b j).sort) z)

  as-client : (i : ℕ) → i < b.count → (row_at b i).sort ≡ 2 → GoodClient i (row_at b i) (row_at b (row_at b i).tm)
  as-client i l c = only-client c (good i l (not_top i c))

  pub shaped-rows : Shaped (view b)
  shaped-rows = record {
    some = some;
    top = top.0;
    sorts = λ i p l. sorts (good i l (λ z. omega arith));
    tms = λ i l c. ((as-client i l c).lower, (as-client i l c).its-tm);
  }

  plain : {i : ℕ} {r t : Row} → (r.sort ≡ 2 → ⊥) → GoodSort i r t → r.tm ≡ 0
  plain ne (tm c z) = z
  plain ne (cp c z) = z
  plain ne (client h) = absurd (ne h.sort)

  no-tm-rows : (i : ℕ) → i < b.count → ((row_at b i).sort ≡ 2 → ⊥) → Dec (i ≡ 0) → (row_at b i).tm ≡ 0
  no-tm-rows i l ne (yes z) = rw z top.2
  no-tm-rows i l ne (no z) = plain ne (good i l z)

-- the test of kept needs is the fact
pub kept→ : (v : View) (needs : List ℕ) → all_kept v needs ≡ true → NeedsKept v needs
unfolding all_kept
kept→ v needs e i l = eqb-true _ _ (all-at 256 (λ j. eqb (get_or needs j 0) (kept_need v j)) e i l)

kept← : (v : View) (needs : List ℕ) → NeedsKept v needs → all_kept v needs ≡ true
unfolding all_kept
kept← v needs h = all_from 256 (λ j. eqb (get_or needs j 0) (kept_need v j)) (λ i l. eq-eqb _ _ (h i l))

-- well formed: the rows, and the modes
module _ (b : Book) (e : formed_b b ≡ true) where
  table-long : places b ≡ 256
  unfolding formed_b
  table-long = search (and_left, and_right, eqb-true)

  most-rows : b.count ≤ 256
  unfolding formed_b
  most-rows = search (and_left, and_right, leb-true)

  some-row : 0 < b.count
  unfolding formed_b
  some-row = search (and_left, and_right, leb-true)

  each_row : (i : ℕ) → i < 256 → row_sound b i ≡ true
  unfolding formed_b
  each_row = all-at 256 (row_sound b) (search (and_left, and_right))

  numbers-rise : numbers_sound b.count b.next b.numbers ≡ true
  unfolding formed_b
  numbers-rise = search and_right

  pub formed→ : SoundRows b
  formed→ = record {
    table = table-long;
    most = most-rows;
    top-live = (top b some-row most-rows table-long each_row).1;
    blank = blank-beyond b some-row most-rows table-long each_row;
    shaped = shaped-rows b some-row most-rows table-long each_row;
    no-tm = λ i l ne. no-tm-rows b some-row most-rows table-long each_row i l ne (ℕ_discrete i 0);
    tm-live = λ i l c. (as-client b some-row most-rows table-long each_row i l c).tm-live;
    retired = λ i l. row-retired b i (each_row i (omega (arith, most-rows))) l;
    ranges = λ i l. row-ranges b i (each_row i (omega (arith, most-rows))) l;
    numbered = numbers→ b.count b.next b.numbers most-rows numbers-rise some-row;
  }

  pub formed-modes : (i : ℕ) → i < 256 → mode_at b i ≡ true → MayBeOn b i
  unfolding formed_b
  formed-modes i l = mode→ b i (all-at 256 (mode_sound b) (search (and_left, and_right)) i l)

pub sound→ : (b : Book) → sound_b b ≡ true → Sound b
unfolding sound_b
sound→ b e =
    let h = and_left (formed_b b) (kept_by New b) e in
    with_rest b (formed→ b h) (formed-modes b h) (kept→ (view b) b.needs (and_right (formed_b b) (kept_by New b) e))

pub sound← : (b : Book) → Sound b → sound_b b ≡ true
unfolding sound_b formed_b
sound← b s =
    and-join (and-join (and-join (and-join (and-join (and-join (le-leb _ _ s.shaped.some) (le-leb _ _ s.most))
    (all_from 256 (row_sound b) (λ i l. row← b i s))) (eq-eqb _ _ s.table)) (all_from 256 (mode_sound b) (λ i l. mode← b i (s.modes i l)))) (numbers← b.count b.next b.numbers s.numbered))
    (kept← (view b) b.needs s.kept)
