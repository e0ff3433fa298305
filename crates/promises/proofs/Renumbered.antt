-- Records numbered anew: what stays of them, and that no serial of them is refused.
use mathlib.Core.Bool.{Bool, true, false, not}
use mathlib.Core.List.{List, [], ◌∷◌, ◌++◌}
use mathlib.Core.Logic.{◌⊎◌, inl, inr}
use mathlib.Core.Path.{◌≡◌, refl, ap, ◌∙◌}
use Prim.Native.Nat.{ℕ, suc, ◌+◌, ◌≤◌, ◌<◌, ◌^◌}
use native.Mathlib.Omega.{arith}
use lib.Dec.{eqb}
use lib.ListN.{length}
use borrow.Author.Tests.{eq-eqb}
use Rattle.sums.specs.Choice.{pick}
use Rattle.sums.specs.Table.{Line, ◌when◌, first}
use Rattle.sums.proofs.Tables.{From, first-later, first-from}
use Rattle.rows.specs.declared.Row.{Row}
use Rattle.rows.specs.declared.Book.{Book}
use Rattle.rows.specs.KeptNeeds.{settled}
use Rattle.book.specs.Sound.{sound_b}
use Rattle.dayfile.specs.declared.Record.{Record}
use Rattle.dayfile.specs.Files.{AllGood, none, also}
use Rattle.dayfile.specs.Records.{fault_of}
use Rattle.rules.specs.declared.Change.TheVariants.{Put, Open}
use Rattle.rules.specs.Refusals.{is_opening, refusal_of}
use Rattle.rules.specs.Effects.{next_serial, changed_by}
use Rattle.rules.specs.Numbered.{placed, verdict_of}
use Rattle.desk.specs.Steps.{step_of}
use Rattle.desk.proofs.Effect.{later-refusal}
use Rattle.desk.proofs.ModesAfter.{carried-book}
use Rattle.merging.specs.Merging.{numbered, renumbered}
use Rattle.promises.specs.Sequences.{EachCode}
use Rattle.promises.specs.Orders.{own_of}

pub good-renumbered : (serial : ℕ) (rs : List Record) → serial < 2 ^ 16 → AllGood rs → AllGood (renumbered serial rs)
unfolding renumbered fault_of
good-renumbered serial [] h none = none
good-renumbered serial (r ∷ rs) h (also f w g) =
    also f (record { serial = h; code = w.code; named = w.named; account = w.account }) (good-renumbered (next_serial serial) rs (omega arith) g)

pub own-renumbered : (number serial : ℕ) (rs : List Record) → own_of number (renumbered serial rs) ≡ own_of number rs
unfolding renumbered own_of
own-renumbered number serial [] = refl
own-renumbered number serial (r ∷ rs) = rw (own-renumbered number (next_serial serial) rs)

pub own-both : (number : ℕ) (rs qs : List Record) → own_of number (rs ++ qs) ≡ own_of number rs ++ own_of number qs
unfolding own_of pick
own-both number [] qs = refl
own-both number (r ∷ rs) qs = by (eqb r.account number) (own-both number rs qs)
  where
    by : (t : Bool) → own_of number (rs ++ qs) ≡ own_of number rs ++ own_of number qs
        → pick t (numbered 0 r ∷ own_of number (rs ++ qs)) (own_of number (rs ++ qs)) ≡ pick t (numbered 0 r ∷ own_of number rs) (own_of number rs) ++ own_of number qs
    by true e = rw e
    by false e = rw e

pub codes-renumbered : (p : ℕ → Type 0) (serial : ℕ) (rs : List Record) → EachCode p rs → EachCode p (renumbered serial rs)
unfolding renumbered EachCode
codes-renumbered p serial [] h = tt
codes-renumbered p serial (r ∷ rs) h = (h.0, codes-renumbered p (next_serial serial) rs h.1)

pub codes-joined : (p : ℕ → Type 0) (rs qs : List Record) → EachCode p rs → EachCode p qs → EachCode p (rs ++ qs)
unfolding EachCode
codes-joined p [] qs h k = k
codes-joined p (r ∷ rs) qs h k = (h.0, codes-joined p rs qs h.1 k)

pub as-many-renumbered : (serial : ℕ) (rs : List Record) → length (renumbered serial rs) ≡ length rs
unfolding renumbered
as-many-renumbered serial [] = refl
as-many-renumbered serial (r ∷ rs) = ap suc (as-many-renumbered (next_serial serial) rs)

-- ---- serials from a book's next one on

-- a table whose lines 1 and 3 don't hold
past-both : (t u : Bool) (rest : List Line) → t ≡ false → u ≡ false → From 4 rest
    → (first ((1 when t) ∷ (3 when u) ∷ rest) ≡ 0) ⊎ (4 ≤ first ((1 when t) ∷ (3 when u) ∷ rest))
past-both t u rest p q f =
    let e : first ((1 when t) ∷ (3 when u) ∷ rest) ≡ first rest = first-later 1 t ((3 when u) ∷ rest) p ∙ first-later 3 u rest q in
    rw e (first-from 4 rest f)

module _ (b : Book) (sound : sound_b b ≡ true) (r : Record) (serial : r.serial ≡ b.serial) where
  pub past-3 : (verdict_of b r ≡ 0) ⊎ (4 ≤ verdict_of b r)
  unfolding refusal_of
  past-3 = past-both (not (sound_b b)) (not (eqb r.serial b.serial)) _ (ap not sound) (ap not (eq-eqb _ _ serial)) (omega arith)

  pub serial-on : (step_of b r).book.serial ≡ next_serial b.serial
  unfolding pick
  serial-on = by past-3
    where
      put : (t : Bool) (x y : Row) (place : ℕ) → (settled (changed_by b place (pick t (Open x) (Put y)))).serial ≡ next_serial b.serial
      put true x y place = refl
      put false x y place = refl

      by : (verdict_of b r ≡ 0) ⊎ (4 ≤ verdict_of b r) → (step_of b r).book.serial ≡ next_serial b.serial
      by (inl z) = ap (λ x. x.serial) (carried-book b r z) ∙ put (is_opening (placed b r)) _ _ _
      by (inr h) = ap (λ x. x.serial) (later-refusal b r (omega arith))
