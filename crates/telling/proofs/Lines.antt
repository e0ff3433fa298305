-- A record's line, by the book after it.
use mathlib.Core.Bool.{Bool, true, false, not, ◌&&◌, ◌||◌}
use mathlib.Core.List.{List, [], ◌∷◌}
use mathlib.Core.Path.{◌≡◌, refl, sym, ap, subst, ◌∙◌}
use Prim.Native.Nat.{ℕ}
use lib.Count.{ones}
use lib.Dec.{eqb}
use Rattle.sums.specs.Choice.{pick}
use Rattle.rows.specs.declared.Book.{Book}
use Rattle.table.specs.declared.Marks.{Marks}
use Rattle.table.specs.Words.{book_from}
use Rattle.book.specs.Facts.{Sound}
use Rattle.dayfile.specs.declared.Record.{Record}
use Rattle.passing.specs.declared.Largest.{Largest}
use Rattle.passing.specs.Most.{most_of}
use Rattle.passing.specs.Inner.{Lent, IsMost}
use Rattle.steps.specs.declared.At.{At}
use Rattle.steps.specs.declared.Gone.{Gone}
use Rattle.steps.specs.Steps.{modes_in, book_at}
use Rattle.text.specs.Numbers.{spaced}
use Rattle.codes.specs.declared.asked.Head.{Head}
use Rattle.telling.specs.Inner.{head_only, line_by}

-- the arrays with the modes that are the book's
module _ (at : At) (m : Marks) (w : List ℕ) (was modes : List Bool) (needs numbers : List ℕ) (z : List Bool) (e : modes_in at.waiting was modes ≡ z)
    (s : Sound (book_at at m w was modes needs numbers)) where
  sound-with : Sound (book_from at.count at.serial m w z needs at.next numbers)
  sound-with = subst (λ l. Sound (book_from at.count at.serial m w l needs at.next numbers)) e s

  pub lent-with : Lent at.count m w z needs numbers
  lent-with = record { serial = at.serial; next = at.next; sound = sound-with }

  pub most-with : (r : Record) {x : Largest} → IsMost at.count m w z needs numbers r x → x ≡ most_of (book_at at m w was modes needs numbers) r
  most-with r h = h at.serial at.next sound-with ∙ ap (λ l. most_of (book_from at.count at.serial m w l needs at.next numbers) r) (sym e)

-- whether it is explained, by the code's own test
none_more : (x a c : Bool) → ((not x || a) || not c) ≡ true → (x && (not a && c)) ≡ false
none_more false a c e = refl
none_more true true c e = refl
none_more true false true e = sym e
none_more true false false e = refl

two-more : (x a c : Bool) → ((not x || a) || not c) ≡ false → (x && (not a && c)) ≡ true
two-more false a c e = sym e
two-more true true c e = sym e
two-more true false true e = refl
two-more true false false e = sym e

module _ (explained : Bool) (b : Book) (h : Head) (x : Gone) where
  abbrev Short : Bool
  Short = (not explained || eqb x.refusal 0) || not (eqb (ones h.named) 1)

  pub line-five : Short ≡ true → spaced (h.serial ∷ h.code ∷ h.account ∷ x.refusal ∷ x.given ∷ []) ≡ line_by explained b h x
  unfolding pick
  line-five e = rw (none_more explained (eqb x.refusal 0) (eqb (ones h.named) 1) e)

  pub line-seven : Short ≡ false → {m : Largest} → m ≡ most_of b (head_only h)
      → spaced (h.serial ∷ h.code ∷ h.account ∷ x.refusal ∷ x.given ∷ m.refusal ∷ m.amount ∷ []) ≡ line_by explained b h x
  unfolding pick
  line-seven e q =
      ap (λ (m : Largest). spaced (h.serial ∷ h.code ∷ h.account ∷ x.refusal ∷ x.given ∷ m.refusal ∷ m.amount ∷ [])) q
      ∙ rw (two-more explained (eqb x.refusal 0) (eqb (ones h.named) 1) e)
