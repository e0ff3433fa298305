-- What the rows put into the archive, one after the other.
use mathlib.Core.Bool.{Bool, true, false, not}
use mathlib.Core.List.{List, [], ◌∷◌, ◌++◌}
use mathlib.Core.Path.{◌≡◌, refl, sym, ap, ◌∙◌}
use Prim.Native.Nat.{ℕ, zero, suc, ◌+◌, ◌*◌, ◌≤◌, ◌<◌}
use native.Mathlib.Numerals.{add-one}
use native.Mathlib.Omega.{arith}
use lib.Dec.{eqb}
use native.Mathlib.Decide.{ℕ_discrete}
use lib.ListN.{length, get_or, length-append, get_or-append}
use lib.Seq.{get_or-append-add}
use Rattle.sums.specs.Sum.{sum, only}
use Rattle.sums.specs.Choice.{pick}
use Rattle.sums.proofs.Sums.{sum-eq}
use Rattle.sums.proofs.Choices.{pick_yes, pick_no}
use Rattle.rows.specs.declared.Row.{Row}
use Rattle.rows.specs.declared.Book.{Book}
use Rattle.rows.specs.Rows.{row_at, number_at}
use Rattle.table.specs.declared.Marks.{Marks}
use Rattle.table.specs.Words.{book_from}
use Rattle.table.proofs.Gathered.{row-in}
use Rattle.gaps.specs.Gaps.{place_after, kept_to}
use Rattle.gaps.proofs.Places.{place-le, place-lt}
use Rattle.archiving.specs.Archiving.{is_retired, retired_of, archived_row, archive_of}
use Rattle.archiving.specs.Inner.{entry_of}

module _ (b : Book) where
  -- what the rows below n put
  abbrev pub entries : ℕ → List ℕ
  entries n = kept_to (is_retired b) (archived_row b) n

  pub entries_none : entries 0 ≡ []
  unfolding kept_to
  entries_none = refl

  pub entries-more : (i : ℕ) → entries (i + 1) ≡ entries i ++ entry_of b i
  unfolding kept_to
  entries-more i = rw (add-one i)

  entry_length : (i : ℕ) → length (entry_of b i) ≡ 3 * only (is_retired b i) 1
  unfolding pick
  entry_length i = by (is_retired b i)
    where
      by : (t : Bool) → length (pick t (archived_row b i) []) ≡ 3 * only t 1
      by true = refl
      by false = refl

  -- THE LAW: three numbers for each retired row
  entries-length : (n : ℕ) → length (entries n) ≡ 3 * sum n (λ i. only (is_retired b i) 1)
  unfolding kept_to sum
  entries-length zero = refl
  entries-length (suc n) = omega (arith, length-append (entries n) (entry_of b n), entries-length n, entry_length n)

  pub archive-length : length (archive_of b) ≡ 3 * retired_of b
  archive-length = entries-length b.count

  pub entry-fits : (i : ℕ) → i < b.count → length (entries i) + length (entry_of b i) ≤ length (archive_of b)
  unfolding place_after sum
  entry-fits i l =
      omega (arith, entries-length i, entry_length i, archive-length, place-le (is_retired b) (suc i) b.count (omega arith))

  -- how many entries stand before a row's: "in rising number"
  before : (n : ℕ) → length (entries n) ≡ 3 * place_after (is_retired b) n
  unfolding place_after
  before n = entries-length n

  entry_in : (n i : ℕ) → i < n → is_retired b i ≡ true → (k : ℕ) → k < 3
      → get_or (entries n) (3 * place_after (is_retired b) i + k) 0 ≡ get_or (archived_row b i) k 0
  unfolding kept_to
  entry_in zero i l e k m = absurd (omega arith)
  entry_in (suc n) i l e k m = by (ℕ_discrete i n) (λ q. entry_in n i q e k m)
    where
      by : Dec (i ≡ n) → (i < n → get_or (entries n) (3 * place_after (is_retired b) i + k) 0 ≡ get_or (archived_row b i) k 0)
          → get_or (entries n ++ entry_of b n) (3 * place_after (is_retired b) i + k) 0 ≡ get_or (archived_row b i) k 0
      by (yes q) r =
          ap (λ x. get_or (entries n ++ entry_of b n) (x + k) 0) (ap (λ x. 3 * place_after (is_retired b) x) q ∙ sym (before n))
          ∙ get_or-append-add (entries n) (entry_of b n) k 0 ∙ ap (λ x. get_or x k 0) (pick_yes (is_retired b n) _ _ (sym (ap (is_retired b) q) ∙ e))
          ∙ ap (λ x. get_or (archived_row b x) k 0) (sym q)
      by (no q) r =
          get_or-append (entries n) (entry_of b n) 0 _ (omega (arith, before n, place-lt (is_retired b) i n e (omega arith))) ∙ r (omega arith)

  -- THE LAW: each retired row's three numbers stand behind those of the retired rows before it
  pub entry_at : (i : ℕ) → i < b.count → is_retired b i ≡ true → (k : ℕ) → k < 3
      → get_or (archive_of b) (3 * place_after (is_retired b) i + k) 0 ≡ get_or (archived_row b i) k 0
  entry_at i l e k m = entry_in b.count i l e k m

  module _ (i : ℕ) {r : Row} (e : row_at b i ≡ r) where
    pub live-entry : r.live ≡ true → entry_of b i ≡ []
    live-entry l = pick_no (is_retired b i) _ _ (ap not (ap (λ q. q.live) e ∙ l))

    pub retired-entry : r.live ≡ false → {x : ℕ} → x ≡ pick (eqb r.sort 2) (number_at b r.tm) 0 → entry_of b i ≡ number_at b i ∷ r.sort ∷ x ∷ []
    retired-entry l q = pick_yes (is_retired b i) _ _ (ap not (ap (λ q. q.live) e ∙ l)) ∙ rw (q, e)

-- counted where they stand
pub retired-in : (count serial : ℕ) (m : Marks) (w : List ℕ) (modes : List Bool) (needs : List ℕ) (next : ℕ) (numbers : List ℕ) → count ≤ 256
    → sum count (λ i. only (not (get_or m.live i false)) 1) ≡ retired_of (book_from count serial m w modes needs next numbers)
retired-in count serial m w modes needs next numbers h =
    sum-eq count _ _ (λ i l. ap (λ r. only (not r.live) 1) (sym (row-in m w i (omega arith))))
