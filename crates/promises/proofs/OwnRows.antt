-- A row after records that are carried out, none of them an opening, is what its account's own records make of it; and what stays of the rest.
use mathlib.Core.Bool.{Bool, true, false, ◌&&◌}
use mathlib.Core.List.{List, [], ◌∷◌}
use mathlib.Core.Path.{◌≡◌, refl, sym, ap, ◌∙◌}
use Prim.Native.Nat.{ℕ, zero, suc, ◌<◌}
use native.Mathlib.Omega.{arith}
use native.Mathlib.Decide.{ℕ_discrete}
use lib.Dec.{leb, eqb}
use lib.ListN.{length, get_or}
use borrow.Author.Tests.{eq-eqb, ne_eqb, lt-leb}
use Rattle.sums.specs.Choice.{pick}
use Rattle.sums.proofs.Choices.{pick_yes, pick_no}
use Rattle.rows.specs.declared.Row.{Row}
use Rattle.rows.specs.declared.Book.{Book}
use Rattle.rows.specs.Rows.{place_of, row_at, number_at, view}
use Rattle.rows.specs.KeptNeeds.{needs_afresh}
use Rattle.lookup.proofs.Places.{place-has, place_found}
use Rattle.dayfile.specs.declared.Record.{Record}
use Rattle.rules.specs.Refusals.{is_opening}
use Rattle.rules.specs.Effects.{amended, next_serial}
use Rattle.rules.specs.Numbered.{placed, verdict_of}
use Rattle.rules.proofs.Passing.{passes-all}
use Rattle.desk.specs.Steps.{step_of}
use Rattle.desk.proofs.Lasting.{others-stay}
use Rattle.desk.proofs.Rows.{put-book, named-after}
use Rattle.desk.proofs.ModesAfter.{needs-after}
use Rattle.promises.specs.Sequences.{after_all, EachCode}
use Rattle.promises.specs.Orders.{unnumbered, own_of, WithoutOpenings, AllCarriedOut}

-- what an account's own records make of its row
unfoldable pub amended_all : Row → List Record → Row
amended_all row [] = row
amended_all row (r ∷ rs) = amended_all (amended row r) rs

-- what a record does to its row doesn't look at its serial
amended-plain : (row : Row) (r : Record) → amended row (unnumbered r) ≡ amended row r
unfolding amended
amended-plain row r = refl

module _ (b : Book) (r : Record) (carried : verdict_of b r ≡ 0) (code : 3 < r.code) where
  no-opening : is_opening r ≡ false
  no-opening = by (leb 1 r.code) (lt-leb r.code 3 code)
    where
      by : (t : Bool) → leb r.code 3 ≡ false → (t && leb r.code 3) ≡ false
      by true e = e
      by false e = refl

  pub count-stays : (step_of b r).book.count ≡ b.count
  count-stays = ap (λ x. x.count) (put-book b r carried no-opening)

  pub next-stays : (step_of b r).book.next ≡ b.next
  next-stays = ap (λ x. x.next) (put-book b r carried no-opening)

  pub numbers_stay : (step_of b r).book.numbers ≡ b.numbers
  numbers_stay = ap (λ x. x.numbers) (put-book b r carried no-opening)

  pub serial-moves : (step_of b r).book.serial ≡ next_serial b.serial
  serial-moves = ap (λ x. x.serial) (put-book b r carried no-opening)

  -- the row of an account is put anew where the record names its number, and stays otherwise
  pub row-at : (i : ℕ) → i < b.count → row_at (step_of b r).book i ≡ pick (eqb r.account (number_at b i)) (amended (row_at b i) r) (row_at b i)
  unfolding amended
  row-at i l = by (ℕ_discrete i (place_of b r.account))
    where
      by : Dec (i ≡ place_of b r.account) → row_at (step_of b r).book i ≡ pick (eqb r.account (number_at b i)) (amended (row_at b i) r) (row_at b i)
      by (yes q) =
          let p = passes-all b (placed b r) carried in
          let n : number_at b i ≡ r.account = ap (number_at b) q ∙ place-has b.numbers b.count r.account p.account in
          ap (row_at (step_of b r).book) q
          ∙ named-after b r carried no-opening
          ∙ ap (λ j. amended (row_at b j) r) (sym q)
          ∙ sym (pick_yes (eqb r.account (number_at b i)) _ _ (eq-eqb _ _ (sym n)))
      by (no q) =
          let s = (passes-all b (placed b r) carried).sound in
          let e = place_found b.numbers b.count (record { most = s.most; up = s.numbered.rises }) i l in
          others-stay b r i l q ∙ sym (pick_no (eqb r.account (number_at b i)) _ _ (ne_eqb _ _ (λ z. q (sym e ∙ ap (place_of b) (sym z)))))

-- a row after all records is what its account's own make of it
pub row-after : (rs : List Record) (b : Book) → WithoutOpenings rs → AllCarriedOut b rs → (i : ℕ) → i < b.count
    → row_at (after_all b rs) i ≡ amended_all (row_at b i) (own_of (number_at b i) rs)
unfolding after_all AllCarriedOut EachCode own_of amended_all pick
row-after [] b w h i l = refl
row-after (r ∷ rs) b w h i l =
    row-after rs (step_of b r).book w.1 h.1 i (omega (arith, count-stays b r h.0 w.0))
    ∙ ap (λ x. amended_all (row_at (step_of b r).book i) (own_of (get_or x i 0) rs)) (numbers_stay b r h.0 w.0)
    ∙ ap (λ x. amended_all x (own_of (number_at b i) rs)) (row-at b r h.0 w.0 i l)
    ∙ by (eqb r.account (number_at b i))
  where
    own : List Record
    own = own_of (number_at b i) rs

    by : (t : Bool) → amended_all (pick t (amended (row_at b i) r) (row_at b i)) own ≡ amended_all (row_at b i) (pick t (unnumbered r ∷ own) own)
    by true = ap (λ x. amended_all x own) (sym (amended-plain (row_at b i) r))
    by false = refl

-- what no such record changes: the number of rows, their numbers, the next number
pub record Kept (b c : Book) : Type 0 where
  pub count : c.count ≡ b.count
  pub next : c.next ≡ b.next
  pub numbers : c.numbers ≡ b.numbers

pub kept-after : (rs : List Record) (b : Book) → WithoutOpenings rs → AllCarriedOut b rs → Kept b (after_all b rs)
unfolding after_all AllCarriedOut EachCode
kept-after [] b w h = record { count = refl; next = refl; numbers = refl }
kept-after (r ∷ rs) b w h =
    let k = kept-after rs (step_of b r).book w.1 h.1 in
    record {
      count = k.count ∙ count-stays b r h.0 w.0;
      next = k.next ∙ next-stays b r h.0 w.0;
      numbers = k.numbers ∙ numbers_stay b r h.0 w.0;
    }

-- and the serial moves on by the number of records
-- n times on
unfoldable pub on_by : ℕ → ℕ → ℕ
on_by serial zero = serial
on_by serial (suc n) = on_by (next_serial serial) n

pub serial-after : (rs : List Record) (b : Book) → WithoutOpenings rs → AllCarriedOut b rs → (after_all b rs).serial ≡ on_by b.serial (length rs)
unfolding after_all AllCarriedOut EachCode on_by
serial-after [] b w h = refl
serial-after (r ∷ rs) b w h =
    serial-after rs (step_of b r).book w.1 h.1 ∙ ap (λ n. on_by n (length rs)) (serial-moves b r h.0 w.0)

-- after one record or more the kept needs are those worked out afresh
pub needs-after-all : (r : Record) (rs : List Record) (b : Book) → AllCarriedOut b (r ∷ rs)
    → (after_all b (r ∷ rs)).needs ≡ needs_afresh (view (after_all b (r ∷ rs)))
unfolding after_all AllCarriedOut
needs-after-all r [] b h = needs-after b r h.0
needs-after-all r (q ∷ rs) b h = needs-after-all q rs (step_of b r).book h.1
