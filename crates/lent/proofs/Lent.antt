-- Bytes that are lent as a book: what reading them gives, and what is refused first.
use mathlib.Core.Bool.{Bool, true, false, not, ◌||◌, false≢true}
use mathlib.Core.List.{List}
use mathlib.Core.Path.{◌≡◌, refl, ap, ◌∙◌}
use Prim.Native.Nat.{ℕ}
use native.Mathlib.Omega.{arith}
use lib.ListN.{length}
use Rattle.sums.specs.Choice.{pick}
use Rattle.sums.proofs.Choices.{and-left-fails}
use Rattle.sums.proofs.Tables.{first-here, first-later, none-gives-0}
use Rattle.rows.specs.Rows.{fresh_book}
use Rattle.table.specs.Words.{turned}
use Rattle.book.specs.Sound.{sound_b}
use Rattle.bookfile.specs.declared.Held.{Held}
use Rattle.bookfile.specs.Facts.{is_two, is_one}
use Rattle.bookfile.specs.Reading.{is_book, book_in, read_of}
use Rattle.bookfile.specs.Written.{size}
use Rattle.bookfile.proofs.Tests.{other_length, book-long}
use Rattle.lent.specs.Held.{book_of, sound_in, lent_refusal}

module _ (bytes : List ℕ) where
  -- ---- read

  pub other-size : (length bytes ≡ size → ⊥) → is_two bytes ≡ false
  other-size h = other_length _ bytes h

  pub two-long : is_two bytes ≡ true → length bytes ≡ size
  two-long h = book-long _ bytes h

  -- as long as version 2 is, they are none of version 1
  is-book : length bytes ≡ size → is_book bytes ≡ is_two bytes
  unfolding is_book
  is-book e = by (is_two bytes) (is_one bytes) (other_length _ bytes (λ q. omega arith))
    where
      by : (two one : Bool) → one ≡ false → (two || one) ≡ two
      by true one z = refl
      by false one z = z

  -- what was read tells whether they are a book, and which
  abbrev pub Tells : Held → Type 0
  Tells h = (h.is_book ≡ is_two bytes) × (h.is_book ≡ true → h.table ≡ book_in bytes)

  pub read-tells : length bytes ≡ size → Tells (read_of bytes)
  unfolding read_of pick
  read-tells e = let h = by (is_book bytes) in (h.0 ∙ is-book e, h.1)
    where
      there : Bool → Held
      there t = pick t (record { is_book = true; table = book_in bytes }) (record { is_book = false; table = turned fresh_book })

      by : (t : Bool) → ((there t).is_book ≡ t) × ((there t).is_book ≡ true → (there t).table ≡ book_in bytes)
      by true = (refl, λ q. refl)
      by false = (refl, λ q. absurd (false≢true q))

  -- ---- refused first

  pub not-two : is_two bytes ≡ false → sound_in bytes ≡ false
  not-two e = and-left-fails (is_two bytes) _ e

  pub two-sound : is_two bytes ≡ true → sound_in bytes ≡ sound_b (book_of bytes)
  two-sound e = rw e

  pub refused-1 : (fit : Bool) → sound_in bytes ≡ false → lent_refusal bytes fit ≡ 1
  unfolding lent_refusal
  refused-1 fit e = first-here 1 _ _ (ap not e)

  pub refused-15 : sound_in bytes ≡ true → lent_refusal bytes false ≡ 15
  unfolding lent_refusal
  refused-15 e = first-later 1 _ _ (ap not e) ∙ first-here 15 _ _ refl

  pub none-refused : sound_in bytes ≡ true → lent_refusal bytes true ≡ 0
  unfolding lent_refusal
  none-refused e = none-gives-0 _ (ap not e, (refl, tt))

  -- a list that isn't as long as it should be is refused, whatever the book is
  pub unfit-refused : lent_refusal bytes false ≡ 0 → ⊥
  unfit-refused z = by (sound_in bytes) refl
    where
      by : (t : Bool) → sound_in bytes ≡ t → ⊥
      by true e = omega (arith, refused-15 e)
      by false e = omega (arith, refused-1 false e)
