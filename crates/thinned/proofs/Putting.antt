-- A row put anew, and a row opened, in a book and in the thinned one: what was thinned stays thinned.
use mathlib.Core.Bool.{Bool, true, false}
use mathlib.Core.List.{List}
use mathlib.Core.Logic.{inl, inr}
use mathlib.Core.Path.{◌≡◌, refl, sym, ap, ◌∙◌}
use Prim.Native.Nat.{ℕ, ◌+◌, ◌<◌}
use native.Mathlib.Omega.{arith}
use native.Mathlib.Numerals.{add-one}
use native.Mathlib.Decide.{ℕ_discrete, dec_lt}
use lib.ListN.{get_or}
use lib.Seq.{get_or-set_same, get_or-set_other}
use Rattle.sums.proofs.Choices.{test-clash}
use Rattle.rows.specs.declared.Row.{Row}
use Rattle.rows.specs.declared.Book.{Book}
use Rattle.rows.specs.Rows.{row_at, mode_at, number_at, with_row, with_new}
use Rattle.rows.proofs.RowPut.{row_same, row_other, opened-new, opened-below}
use Rattle.book.specs.Facts.{Sound, MayBeOn}
use Rattle.rules.specs.Effects.{next_serial, moved_on}
use Rattle.gaps.specs.Gaps.{place_after, moved_row}
use Rattle.gaps.proofs.Places.{place-on, place-lt, place-most, place-apart}
use Rattle.thinned.proofs.Thinned.{Thinned}

-- a moved row put anew is the row put anew and moved, and its sort and TM stay
pub record Amends (keep : ℕ → Bool) (row x y : Row) : Type 0 where
  pub moved : y ≡ moved_row keep x
  pub sort : x.sort ≡ row.sort
  pub tm : x.tm ≡ row.tm

-- no place beyond the number is in the mode
beyond-off : (b : Book) → Sound b → b.count < 256 → mode_at b b.count ≡ false
beyond-off b s l = by (mode_at b b.count) refl
  where
    may : MayBeOn b b.count → ⊥
    may (inl z) = omega (arith, s.shaped.some)
    may (inr z) = let one = z.0 in omega (arith, ap (λ r. r.sort) (s.blank b.count (omega arith)))

    by : (t : Bool) → mode_at b b.count ≡ t → mode_at b b.count ≡ false
    by false e = e
    by true e = absurd (may (s.modes b.count l e))

module _ {keep : ℕ → Bool} {b c : Book} (d : Thinned keep b c) where
  abbrev at : ℕ → ℕ
  at = place_after keep

  -- with other modes and kept needs
  pub thinned-by : (modes modes' : List Bool) (needs needs' : List ℕ) → ((i : ℕ) → i < b.count → keep i ≡ true → get_or modes' (at i) false ≡ get_or modes i false)
      → Thinned keep (record { count = b.count; serial = b.serial; rows = b.rows; modes = modes; needs = needs; next = b.next; numbers = b.numbers })
      (record { count = c.count; serial = c.serial; rows = c.rows; modes = modes'; needs = needs'; next = c.next; numbers = c.numbers })
  thinned-by modes modes' needs needs' h = record {
    serial = d.serial;
    next = d.next;
    count = d.count;
    rows = d.rows;
    modes = h;
    numbers = d.numbers;
    top = d.top;
    beyond = d.beyond;
    tm-kept = d.tm-kept;
    gone = d.gone;
  }

  -- with the next serial
  pub thinned-moved : Thinned keep (moved_on b) (moved_on c)
  thinned-moved = record {
    serial = ap (λ n. next_serial n) d.serial;
    next = d.next;
    count = d.count;
    rows = d.rows;
    modes = d.modes;
    numbers = d.numbers;
    top = d.top;
    beyond = d.beyond;
    tm-kept = d.tm-kept;
    gone = d.gone;
  }

  module _ (s : Sound b) (t : Sound c) where
    -- a kept row put anew
    pub thinned-put : (i : ℕ) (x y : Row) → i < b.count → keep i ≡ true → Amends keep (row_at b i) x y → Thinned keep (with_row b i x) (with_row c (at i) y)
    thinned-put i x y l k a = record {
      serial = d.serial;
      next = d.next;
      count = d.count;
      rows = λ j m e. rows j m e (ℕ_discrete j i);
      modes = d.modes;
      numbers = d.numbers;
      top = d.top;
      beyond = d.beyond;
      tm-kept = λ j m e q. tms j m e q (ℕ_discrete j i);
      gone = λ j m e. ap (λ r. r.live) (row_other b i j x (λ z. test-clash k (sym (ap keep z) ∙ e))) ∙ d.gone j m e;
    }
      where
        is : row_at (with_row b i x) i ≡ x
        is = row_same b i x (omega (arith, s.table, s.most))

        is' : row_at (with_row c (at i) y) (at i) ≡ y
        is' = row_same c (at i) y (omega (arith, t.table, s.most, place-most keep i))

        rows : (j : ℕ) → j < b.count → keep j ≡ true → Dec (j ≡ i) → row_at (with_row c (at i) y) (at j) ≡ moved_row keep (row_at (with_row b i x) j)
        rows j m e (yes z) = rw (z, is, is') a.moved
        rows j m e (no z) = row_other c (at i) (at j) y (place-apart keep j i e k z) ∙ d.rows j m e ∙ ap (moved_row keep) (sym (row_other b i j x z))

        tms : (j : ℕ) → j < b.count → keep j ≡ true → (row_at (with_row b i x) j).sort ≡ 2 → Dec (j ≡ i) → keep (row_at (with_row b i x) j).tm ≡ true
        tms j m e q (yes z) = rw (z, is, a.tm) (d.tm-kept i l k (sym a.sort ∙ sym (ap (λ r. r.sort) is) ∙ rw z at q))
        tms j m e q (no z) = rw (row_other b i j x z) (d.tm-kept j m e (sym (ap (λ r. r.sort) (row_other b i j x z)) ∙ q))

    -- a row more, with the next number
    module _ (x : Row) (lb : b.count < 256) (lc : c.count < 256) (its-tm : x.sort ≡ 2 → keep x.tm ≡ true) where
      abbrev b' : Book
      b' = with_new b x

      abbrev c' : Book
      c' = with_new c (moved_row keep x)

      -- the new row is the only one that is not below
      last : {j : ℕ} → j < b.count + 1 → (j < b.count → ⊥) → j ≡ b.count
      last m z = omega arith

      old : (j : ℕ) → j < b.count → row_at b' j ≡ row_at b j
      old j z = opened-below b x (omega (arith, s.table)) j z

      new : row_at b' b.count ≡ x
      new = opened-new b x (omega (arith, s.table))

      before : (j : ℕ) → keep j ≡ true → j < b.count → at j < c.count
      before j e z = omega (arith, place-lt keep j b.count e z, d.count)

      rows : (j : ℕ) → keep j ≡ true → Dec (j < b.count) → j < b.count + 1 → row_at c' (at j) ≡ moved_row keep (row_at b' j)
      rows j e (yes z) m = opened-below c (moved_row keep x) (omega (arith, t.table)) (at j) (before j e z) ∙ d.rows j z e ∙ ap (moved_row keep) (sym (old j z))
      rows j e (no z) m = rw (last m z) (ap (row_at c') (sym d.count) ∙ opened-new c (moved_row keep x) (omega (arith, t.table)) ∙ ap (moved_row keep) (sym new))

      modes : (j : ℕ) → keep j ≡ true → Dec (j < b.count) → j < b.count + 1 → mode_at c (at j) ≡ mode_at b j
      modes j e (yes z) m = d.modes j z e
      modes j e (no z) m = rw (last m z) (ap (mode_at c) (sym d.count) ∙ beyond-off c t lc ∙ sym (beyond-off b s lb))

      numbers : (j : ℕ) → keep j ≡ true → Dec (j < b.count) → j < b.count + 1 → number_at c' (at j) ≡ number_at b' j
      numbers j e (yes z) m =
          get_or-set_other c.numbers c.count (at j) c.next 0 (λ w. omega (arith, before j e z)) ∙ d.numbers j z e
          ∙ sym (get_or-set_other b.numbers b.count j b.next 0 (λ w. omega arith))
      numbers j e (no z) m =
          rw (last m z)
          (ap (number_at c') (sym d.count) ∙ get_or-set_same c.numbers c.count c.next 0 (omega (arith, t.numbered.wide)) ∙ d.next
          ∙ sym (get_or-set_same b.numbers b.count b.next 0 (omega (arith, s.numbered.wide))))

      tms : (j : ℕ) → keep j ≡ true → (row_at b' j).sort ≡ 2 → Dec (j < b.count) → j < b.count + 1 → keep (row_at b' j).tm ≡ true
      tms j e q (yes z) m = rw (old j z) (d.tm-kept j z e (sym (ap (λ r. r.sort) (old j z)) ∙ q))
      tms j e q (no z) m = rw (last m z, new) (its-tm (sym (ap (λ r. r.sort) new) ∙ rw (last m z) at q))

      gone : (j : ℕ) → keep j ≡ false → Dec (j < b.count) → j < b.count + 1 → (row_at b' j).live ≡ false
      gone j e (yes z) m = ap (λ r. r.live) (old j z) ∙ d.gone j z e
      gone j e (no z) m = test-clash (d.beyond j (omega arith)) e

      pub thinned-open : Thinned keep (with_new b x) (with_new c (moved_row keep x))
      thinned-open = record {
        serial = d.serial;
        next = ap (λ n. n + 1) d.next;
        count = rw (add-one b.count) (omega (arith, d.count, place-on keep b.count (d.beyond b.count (omega arith))));
        rows = λ j m e. rows j e (dec_lt j b.count) m;
        modes = λ j m e. modes j e (dec_lt j b.count) m;
        numbers = λ j m e. numbers j e (dec_lt j b.count) m;
        top = d.top;
        beyond = λ j m. d.beyond j (omega arith);
        tm-kept = λ j m e q. tms j e q (dec_lt j b.count) m;
        gone = λ j m e. gone j e (dec_lt j b.count) m;
      }
