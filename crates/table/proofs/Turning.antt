-- "Prove that turning over and back changes nothing": both ways, for every value of the types.
use mathlib.Core.Bool.{false}
use mathlib.Core.List.{List}
use mathlib.Core.Path.{◌≡◌, refl, ap, sym, ◌∙◌}
use Prim.Native.Nat.{ℕ, ◌+◌, ◌*◌, ◌/◌, ◌%◌, ◌<◌}
use native.Mathlib.Omega.{arith}
use lib.ListN.{length, get_or}
use Rattle.sums.specs.Listed.{list_to}
use Rattle.sums.proofs.Lists.{at-list_to, list-is}
use Rattle.rows.specs.declared.Row.{Row}
use Rattle.rows.specs.declared.Book.{Book}
use Rattle.rows.specs.Rows.{no_row, row_at}
use Rattle.table.specs.declared.Table.{Table}
use Rattle.table.specs.Words.{word_at, amount_of, row_in, rows_of, turned, turned_back}
use Rattle.table.specs.Facts.{Sized}
use Rattle.table.proofs.Gathered.{row-in, row-eq, word_in}

pub over-and-back : (b : Book) → length b.rows ≡ 256 → turned_back (turned b) ≡ b
unfolding rows_of turned
over-and-back b e =
    ap (λ l. record { count = b.count; serial = b.serial; rows = l; modes = b.modes; needs = b.needs; next = b.next; numbers = b.numbers })
    (list-is (row_in (turned b).marks (turned b).amounts) 256 no_row b.rows e (λ i l. sym (row i l)))
  where
    word : (k i : ℕ) → k < 10 → i < 256 → word_at (turned b).amounts k i ≡ amount_of (row_at b i) k
    word k i lk li =
        let place : (256 * k + i) % 256 ≡ i = omega arith in
        let number : (256 * k + i) / 256 ≡ k = omega arith in
        at-list_to (λ n. amount_of (row_at b (n % 256)) (n / 256)) 2560 (256 * k + i) 0 (omega arith) ∙ rw (place, number)

    row : (i : ℕ) → i < 256 → row_in (turned b).marks (turned b).amounts i ≡ row_at b i
    row i l =
        row-eq _ _ _ (λ k. word_at (turned b).amounts k i) (amount_of (row_at b i)) (λ k m. word k i m l)
        ∙ rw (at-list_to (λ j. (row_at b j).sort) 256 i 0 l, at-list_to (λ j. (row_at b j).live) 256 i false l, at-list_to (λ j. (row_at b j).tm) 256 i 0 l)

pub back-and-over : (t : Table) → Sized t.marks t.amounts → turned (turned_back t) ≡ t
unfolding turned
back-and-over t h =
    λ j. record {
      count = t.count;
      serial = t.serial;
      marks = record {
        sort = column (λ r. r.sort) t.marks.sort 0 h.sorts (λ i. refl) j;
        live = column (λ r. r.live) t.marks.live false h.lives (λ i. refl) j;
        tm = column (λ r. r.tm) t.marks.tm 0 h.tms (λ i. refl) j;
      };
      modes = t.modes;
      needs = t.needs;
      next = t.next;
      numbers = t.numbers;
      amounts = list-is _ 2560 0 t.amounts h.words (λ n l. sym (word n l)) j;
    }
  where
    column : {A : Type 0} (f : Row → A) (xs : List A) (d : A) → length xs ≡ 256 → ((i : ℕ) → f (row_in t.marks t.amounts i) ≡ get_or xs i d)
        → list_to (λ i. f (row_at (turned_back t) i)) 256 ≡ xs
    column f xs d e g =
        list-is (λ i. f (row_at (turned_back t) i)) 256 d xs e (λ i l. sym (ap f (row-in t.marks t.amounts i l) ∙ g i))

    word : (n : ℕ) → n < 2560 → amount_of (row_at (turned_back t) (n % 256)) (n / 256) ≡ get_or t.amounts n 0
    word n l = word_in t.marks t.amounts (n / 256) (n % 256) (omega arith) (omega arith) ∙ ap (λ x. get_or t.amounts x 0) (omega arith)

-- "the old one's book, turned over": a table is known by the book that it is turned back to
pub turned-from : (t : Table) (b : Book) → Sized t.marks t.amounts → turned_back t ≡ b → t ≡ turned b
turned-from t b h e = sym (back-and-over t h) ∙ ap turned e
