-- Numbers are never given twice: those that records and archivings give rise, from the next one on.
use mathlib.Core.Bool.{Bool, true, false}
use mathlib.Core.List.{List, [], ◌∷◌, ◌++◌}
use mathlib.Core.Path.{◌≡◌, refl, ◌∙◌}
use Prim.Native.Nat.{ℕ, zero, suc, ◌+◌, ◌≤◌, ◌<◌}
use native.Mathlib.Omega.{arith}
use lib.Dec.{eqb, leb}
use borrow.Author.Tests.{leb-false}
use Rattle.sums.specs.Choice.{pick, unless_refused}
use Rattle.sums.specs.Sum.{only}
use Rattle.sums.proofs.Choices.{and-fails, or-fails}
use Rattle.rows.specs.declared.Book.{Book}
use Rattle.rows.specs.declared.Row.{Row}
use Rattle.rows.specs.Rows.{place_of}
use Rattle.gaps.specs.Gaps.{archived}
use Rattle.dayfile.specs.declared.Record.{Record}
use Rattle.rules.specs.declared.Change.TheVariants.{Refuse, Put, Open}
use Rattle.rules.specs.Refusals.{is_opening}
use Rattle.rules.specs.Effects.{change_of, moved_on, book_after}
use Rattle.rules.specs.Numbered.{placed, verdict_of, given_of, record_after}
use Rattle.rules.proofs.Passing.{passes-all}
use Rattle.thinned.specs.Given.{Event, carry, archive, numbers_given, RisingFrom}

-- after a record either the next number is given and the next rises by one, or none is given and the next stays
data NextAfter (b : Book) (r : Record) : Type 0 where
  opened : given_of b r ≡ b.next → b.next < 65536 → (record_after b r).next ≡ b.next + 1 → NextAfter b r
  stays : given_of b r ≡ 0 → (record_after b r).next ≡ b.next → NextAfter b r

module _ (b : Book) (r : Record) where
  -- the next number by the verdict, and by whether the record is an opening
  next-by : (n : ℕ) (o : Bool) (x y : Row) → (book_after b (place_of b r.account) (unless_refused n (pick o (Open x) (Put y)) Refuse)).next ≡ unless_refused n (b.next + only o 1) (λ m. b.next)
  unfolding pick
  next-by zero true x y = refl
  next-by zero false x y = omega arith
  next-by (suc n) o x y = by (leb (suc n) 3)
    where
      by : (t : Bool) → (pick t b (moved_on b)).next ≡ b.next
      by true = refl
      by false = refl

  next-is : (record_after b r).next ≡ unless_refused (verdict_of b r) (b.next + only (is_opening r) 1) (λ m. b.next)
  unfolding change_of
  next-is = next-by (verdict_of b r) (is_opening r) _ _

  next-after : NextAfter b r
  next-after = by (verdict_of b r) refl (is_opening r) refl
    where
      by : (n : ℕ) → verdict_of b r ≡ n → (o : Bool) → is_opening r ≡ o → NextAfter b r
      by zero e true o =
          opened (rw (e, o)) (leb-false _ _ (or-fails (leb 256 b.count) (leb 65536 b.next) (and-fails o (passes-all b (placed b r) e).number)).1)
          (next-is ∙ rw (e, o))
      by zero e false o = stays (rw (e, o)) (next-is ∙ rw (e, o) (omega arith))
      by (suc n) e x o = stays (rw e) (next-is ∙ rw e)

-- a list that rises from higher up
rising-lower : (j k : ℕ) (xs : List ℕ) → j ≤ k → RisingFrom k xs → RisingFrom j xs
rising-lower j k [] l h = tt
rising-lower j k (x ∷ xs) l h = let low = h.0 in (omega arith, h.1, h.2)

-- a number put in front of those that follow it; 0 is none
rising-on : (n k : ℕ) (xs : List ℕ) → n ≡ k → k < 65536 → RisingFrom (k + 1) xs → RisingFrom k (pick (eqb n 0) [] (n ∷ []) ++ xs)
unfolding pick
rising-on n k xs e l h = rw e (by (eqb k 0))
  where
    by : (t : Bool) → RisingFrom k (pick t [] (k ∷ []) ++ xs)
    by true = rising-lower k (k + 1) xs (omega arith) h
    by false = (omega arith, omega arith, h)

-- THE LAW
pub never-twice : (b : Book) (es : List Event) → RisingFrom b.next (numbers_given b es)
unfolding archived pick
never-twice b [] = tt
never-twice b (carry r ∷ es) = by (next-after b r) (never-twice (record_after b r) es)
  where
    by : NextAfter b r → RisingFrom (record_after b r).next (numbers_given (record_after b r) es) → RisingFrom b.next (numbers_given b (carry r ∷ es))
    by (opened g l e) h = rising-on (given_of b r) b.next _ g l (rw e at h)
    by (stays g e) h = rw g (rw e at h)
never-twice b (archive ∷ es) = never-twice (archived b) es
