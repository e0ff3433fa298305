-- The book in a written form, of either version, is the one that was written: by version 1 with places for numbers.
use mathlib.Core.Bool.{Bool, true, false}
use mathlib.Core.List.{List}
use mathlib.Core.Path.{◌≡◌, refl, sym, ap, ◌∙◌}
use Prim.Native.Nat.{ℕ, ◌+◌, ◌*◌, ◌/◌, ◌%◌, ◌<◌}
use native.Mathlib.Nat.{add-zero}
use native.Mathlib.Omega.{arith}
use lib.Dec.{eqb, leb}
use lib.ListN.{drop, get_or}
use Rattle.sums.specs.Sum.{all}
use Rattle.sums.proofs.Choices.{and-join}
use Rattle.sums.proofs.Lists.{list-is}
use Rattle.sums.proofs.Sums.{all_from}
use Rattle.numbers.specs.Bytes.{number}
use Rattle.table.specs.declared.Table.{Table}
use Rattle.book.specs.Placed.{place_numbers}
use Rattle.bookfile.specs.declared.Version.{Version}
use Rattle.bookfile.specs.declared.Version.TheVariants.{One, Two}
use Rattle.bookfile.specs.Versions.{sort_at}
use Rattle.bookfile.specs.Written.{yes_no, written_by}
use Rattle.bookfile.specs.Reading.{marked, yes_or_no, is_of, yes_at, next_in, numbers_in, book_by}
use Rattle.bookfile.specs.Facts.{Fits, by_places}
use Rattle.bookfile.proofs.Tests.{right-length}
use Rattle.bookfile.proofs.Parts.{length-written}
use Rattle.bookfile.proofs.InPlace.{yes-no, yes_or_no_lem, sort-in, live_in, mode-in, tm-in, amount-in, need-in, byte_at, bytes-at, count_at, serial-at, next-at, number_at}

begins : (v : Version) (t : Table) → true ≡ marked v (written_by v t)
unfolding written_by all
begins One t = refl
begins Two t = refl

-- the book that version v tells of t
abbrev pub told_by : Version → Table → Table
told_by One t = by_places t
told_by Two t = t

next-told : (v : Version) (t : Table) → Fits t → next_in v (written_by v t) (number 2 (drop 4 (written_by v t))) ≡ (told_by v t).next
next-told One t f = count_at One t f
next-told Two t f = next-at t f

numbers-told : (v : Version) (t : Table) → Fits t → numbers_in v (written_by v t) (number 2 (drop 4 (written_by v t))) ≡ (told_by v t).numbers
numbers-told One t f = ap place_numbers (count_at One t f)
numbers-told Two t f = list-is _ 256 0 t.numbers f.numbers (λ i l. sym (number_at t f i l))

module _ (v : Version) (t : Table) where
  abbrev file : List ℕ
  file = written_by v t

  each-yes-or-no : (i : ℕ) → i < 256 → yes_or_no v file i ≡ true
  each-yes-or-no i l =
      and-join {a = leb (get_or file (sort_at v i + 1) 0) 1}
      (ap (λ (x : ℕ). leb x 1) (byte_at v t i 1 l ∙ live_in t i _) ∙ yes_or_no_lem (get_or t.marks.live i false))
      (ap (λ (x : ℕ). leb x 1) (byte_at v t i 84 l ∙ mode-in t i _) ∙ yes_or_no_lem (get_or t.modes i false))

  -- a written form is a book's
  pub written_is : is_of v file ≡ true
  written_is = sym (right-length v file {a = true} {b = true} (length-written v t) (begins v t) (sym (all_from 256 (yes_or_no v file) each-yes-or-no)))

  module _ (f : Fits t) where
    sort : (i : ℕ) → i < 256 → get_or file (sort_at v i) 0 ≡ get_or t.marks.sort i 0
    sort i l = ap (λ (x : ℕ). get_or file x 0) (sym (add-zero (sort_at v i))) ∙ byte_at v t i 0 l ∙ sort-in t i _

    yes : (list : List Bool) (i k : ℕ) → get_or file (sort_at v i + k) 0 ≡ yes_no (get_or list i false) → yes_at file (sort_at v i + k) ≡ get_or list i false
    yes list i k e = ap (λ (x : ℕ). eqb x 1) e ∙ yes-no (get_or list i false)

    word : (n : ℕ) → n < 2560 → number 8 (drop (sort_at v (n % 256) + (4 + 8 * (n / 256))) file) ≡ get_or t.amounts n 0
    word n l =
        let i = n % 256 in
        let k = n / 256 in
        let e : 256 * k + i ≡ n = omega arith in
        ap (number 8) (bytes-at v t i (4 + 8 * k) (omega arith)) ∙ amount-in t i _ f k (omega arith) ∙ ap (λ (x : ℕ). get_or t.amounts x 0) e

    all_told : book_by v file ≡ record {
      count = t.count;
      serial = t.serial;
      marks = t.marks;
      modes = t.modes;
      needs = t.needs;
      amounts = t.amounts;
      next = (told_by v t).next;
      numbers = (told_by v t).numbers;
    }
    unfolding book_by
    all_told =
        λ j. record {
          count = count_at v t f j;
          serial = serial-at v t f j;
          marks = record {
            sort = list-is _ 256 0 t.marks.sort f.sorts (λ i l. sym (sort i l)) j;
            live = list-is _ 256 false t.marks.live f.lives (λ i l. sym (yes t.marks.live i 1 (byte_at v t i 1 l ∙ live_in t i _))) j;
            tm = list-is _ 256 0 t.marks.tm f.tms (λ i l. sym (ap (number 2) (bytes-at v t i 2 l) ∙ tm-in t i _ f)) j;
          };
          modes = list-is _ 256 false t.modes f.modes (λ i l. sym (yes t.modes i 84 (byte_at v t i 84 l ∙ mode-in t i _))) j;
          needs = list-is _ 256 0 t.needs f.needs (λ i l. sym (ap (number 8) (bytes-at v t i 85 l) ∙ need-in t i _ f)) j;
          amounts = list-is _ 2560 0 t.amounts f.amounts (λ n l. sym (word n l)) j;
          next = next-told v t f j;
          numbers = numbers-told v t f j;
        }

pub book-in-written : (v : Version) (t : Table) → Fits t → book_by v (written_by v t) ≡ told_by v t
book-in-written One t f = all_told One t f
book-in-written Two t f = all_told Two t f
