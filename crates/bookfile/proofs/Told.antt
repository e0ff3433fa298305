-- Which version bytes are a book of: one at most, which their length tells.
use mathlib.Core.Bool.{Bool, true, false, ◌||◌}
use mathlib.Core.List.{List}
use mathlib.Core.Path.{◌≡◌, refl, sym, ap, ◌∙◌}
use Prim.Native.Nat.{ℕ}
use native.Mathlib.Omega.{arith}
use native.Mathlib.Decide.{ℕ_discrete}
use borrow.Author.Tests.{eq-eqb, ne_eqb}
use lib.Dec.{eqb}
use lib.ListN.{length}
use Rattle.sums.proofs.Choices.{pick_yes, pick_no, or_left, or_right}
use Rattle.table.specs.declared.Table.{Table}
use Rattle.bookfile.specs.declared.Version.{Version}
use Rattle.bookfile.specs.declared.Version.TheVariants.{One, Two}
use Rattle.bookfile.specs.Written.{size}
use Rattle.bookfile.specs.Reading.{is_of, is_book, book_by, book_in, read_of}
use Rattle.bookfile.specs.Inner.{version_of}
use Rattle.bookfile.proofs.Tests.{other_length, book-long}

or-none : (a : Bool) → (a || false) ≡ a
or-none true = refl
or-none false = refl

module _ (file : List ℕ) where
  -- a book of version 1 is none of version 2
  not-two : is_of One file ≡ true → is_of Two file ≡ false
  not-two h = other_length Two file (λ e. omega (arith, book-long One file h))

  pub is-book : (v : Version) → is_of v file ≡ true → is_book file ≡ true
  unfolding is_book
  is-book One h = or_right (is_of Two file) h
  is-book Two h = or_left (is_of One file) h

  pub book-is : (v : Version) → is_of v file ≡ true → book_in file ≡ book_by v file
  unfolding book_in
  book-is One h = pick_no (is_of Two file) (book_by Two file) (book_by One file) (not-two h)
  book-is Two h = pick_yes (is_of Two file) (book_by Two file) (book_by One file) h

  -- such bytes are read by that version
  pub read_by : (v : Version) → is_of v file ≡ true → read_of file ≡ record { is_book = true; table = book_by v file }
  unfolding read_of
  read_by v h = pick_yes (is_book file) _ _ (is-book v h) ∙ ap (λ (u : Table). record { is_book = true; table = u }) (book-is v h)

  -- the test of the version that the length tells is the test of either
  pub told : is_of (version_of file) file ≡ is_book file
  unfolding is_book
  told = by (ℕ_discrete (length file) size)
    where
      by : Dec (length file ≡ size) → is_of (version_of file) file ≡ (is_of Two file || is_of One file)
      by (yes e) =
          let two : version_of file ≡ Two = pick_yes (eqb (length file) size) Two One (eq-eqb _ _ e) in
          let one : is_of One file ≡ false = other_length One file (λ q. omega arith) in
          rw (two, one) (sym (or-none (is_of Two file)))
      by (no e) =
          let old : version_of file ≡ One = pick_no (eqb (length file) size) Two One (ne_eqb _ _ e) in
          rw (old, other_length Two file e)
