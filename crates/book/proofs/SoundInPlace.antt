-- The tests of a sound book on words in their places.
use mathlib.Core.Bool.{Bool, false, ◌&&◌}
use mathlib.Core.List.{List, []}
use mathlib.Core.Path.{◌≡◌, refl, ◌∙◌}
use Prim.Native.Nat.{ℕ, ◌<◌}
use lib.ListN.{get_or}
use Rattle.sums.specs.Sum.{all}
use Rattle.sums.proofs.Sums.{all-eq}
use Rattle.rows.specs.declared.Rule.{Rule}
use Rattle.rows.specs.Inner.{Slot}
use Rattle.table.specs.declared.Marks.{Marks}
use Rattle.table.specs.declared.Table.{Table}
use Rattle.table.specs.Words.{row_in, book_from, turned_back}
use Rattle.table.proofs.Gathered.{row-in}
use Rattle.book.specs.Sound.{good_row, good_mode, row_sound, mode_sound, formed_b, kept_by, sound_b}
use Rattle.book.specs.Inner.{modes_at}
use Rattle.book.proofs.RowTests.{row-slot}

-- a row's test, by its words
pub row-in-place : (n : ℕ) (m : Marks) (w : List ℕ) (i s : ℕ) → i < 256 → Slot (get_or m.tm i 0) s → {x : Bool} → x ≡ good_row n i (row_in m w i) (row_in m w s)
    → x ≡ row_sound (book_from n 0 m w [] [] 0 []) i
row-in-place n m w i s l slot h =
    let b = book_from n 0 m w [] [] 0 [] in
    let own = row-in m w i l in
    h ∙ rw (own, row-in m w s slot.inside) at (row-slot b i s l (rw own slot))

-- no test looks at the serial
pub sound-serial : (count serial : ℕ) (m : Marks) (w : List ℕ) (modes : List Bool) (needs : List ℕ) (next : ℕ) (numbers : List ℕ)
    → sound_b (book_from count 0 m w modes needs next numbers) ≡ sound_b (book_from count serial m w modes needs next numbers)
unfolding sound_b formed_b row_sound mode_sound
sound-serial count serial m w modes needs next numbers = refl

pub kept-serial : (rule : Rule) (count serial : ℕ) (m : Marks) (w : List ℕ) (modes : List Bool) (needs : List ℕ) (next : ℕ) (numbers : List ℕ)
    → (formed_b (book_from count 0 m w modes needs next numbers) && kept_by rule (book_from count 0 m w modes needs next numbers)) ≡ (formed_b (book_from count serial m w modes needs next numbers) && kept_by rule (book_from count serial m w modes needs next numbers))
unfolding formed_b row_sound mode_sound
kept-serial rule count serial m w modes needs next numbers = refl

-- no row's test looks at the modes, the kept needs or the numbers
pub rows-modes : (count : ℕ) (m : Marks) (w : List ℕ) (modes : List Bool) (needs : List ℕ) (next : ℕ) (numbers : List ℕ)
    → all 256 (row_sound (book_from count 0 m w [] [] 0 [])) ≡ all 256 (row_sound (book_from count 0 m w modes needs next numbers))
unfolding row_sound
rows-modes count m w modes needs next numbers = refl

-- the modes' test, by the arrays
pub modes-in-place : (count : ℕ) (m : Marks) (w : List ℕ) (modes : List Bool) (needs : List ℕ) (next : ℕ) (numbers : List ℕ)
    → modes_at m.sort m.live modes ≡ all 256 (mode_sound (book_from count 0 m w modes needs next numbers))
unfolding modes_at mode_sound
modes-in-place count m w modes needs next numbers =
    all-eq 256 (λ i. good_mode i (get_or m.sort i 0) (get_or m.live i false) (get_or modes i false)) (mode_sound (book_from count 0 m w modes needs next numbers))
    (λ i l. rw (row-in m w i l))

-- both of a table: neither looks at the serial
module _ (t : Table) where
  pub rows-in-table : all 256 (row_sound (book_from t.count 0 t.marks t.amounts [] [] 0 [])) ≡ all 256 (row_sound (turned_back t))
  unfolding row_sound
  rows-in-table = refl

  pub modes-in-table : modes_at t.marks.sort t.marks.live t.modes ≡ all 256 (mode_sound (turned_back t))
  unfolding mode_sound
  modes-in-table = modes-in-place t.count t.marks t.amounts t.modes t.needs t.next t.numbers
