-- A record's verdict at a thinned book is the one at the book, 9 excepted. Here an account is told by the place of its row.
use mathlib.Core.Bool.{Bool, true, false, not, ◌&&◌, ◌||◌}
use mathlib.Core.List.{List, [], ◌∷◌, ◌++◌}
use mathlib.Core.Logic.{◌⊎◌, inl, inr}
use mathlib.Core.Path.{◌≡◌, refl, sym, ap, ◌∙◌}
use Prim.Native.Nat.{ℕ, ◌-◌, ◌<◌}
use native.Mathlib.Omega.{arith}
use lib.Dec.{eqb, leb, ltb}
use borrow.Author.Tests.{leb-true, le-leb}
use Rattle.sums.specs.Choice.{pick}
use Rattle.sums.specs.Table.{Line, ◌when◌, first}
use Rattle.sums.proofs.Choices.{and_split, and-join, or_split, or_left, or_right}
use Rattle.sums.proofs.Tables.{Numbered, first-here, first-later, first-beyond, first-names, first-but}
use Rattle.rows.specs.declared.Row.{Row}
use Rattle.rows.specs.declared.Book.{Book}
use Rattle.rows.specs.View.{blocked}
use Rattle.rows.specs.Rows.{row_at, collateral, with_allocated, with_pledged, less_kinds, view, is_live}
use Rattle.book.specs.Facts.{SoundRows, Sound}
use Rattle.book.proofs.SoundTest.{sound←}
use Rattle.book.proofs.Settled.{sound-rows}
use Rattle.dayfile.specs.declared.Record.{Record}
use Rattle.dayfile.specs.Records.{faults}
use Rattle.rules.specs.declared.Beside.{Beside}
use Rattle.rules.specs.Refusals.{is_opening, named_row, none_left, no_number_left, past_ceiling, too_much, held_by_mode, left_below, takes_blocked, loses_cover, not_retirable, beside_of, before8, from8, refusal_of}
use Rattle.rules.specs.Numbered.{naming}
use Rattle.gaps.specs.Gaps.{place_after, moved_row}
use Rattle.gaps.proofs.Places.{place-most}
use Rattle.thinned.proofs.Thinned.{Thinned, same_live, same-top, same-blocked, same-live-client, same-passes}

-- the places i of b and p of c mean the same account: a kept row, or none that is live in either
pub data Meant (keep : ℕ → Bool) (b c : Book) (i p : ℕ) : Type 0 where
  kept : i < b.count → keep i ≡ true → p ≡ place_after keep i → Meant keep b c i p
  none : is_live b i ≡ false → is_live c p ≡ false → Meant keep b c i p

-- The table past 1 by what it looks at: top says whether the account is account 0, full whether no row or number is left. The lines before 9:
abbrev before9 : ℕ → Bool → Row → Bool → Record → List Line
before9 serial alive row top r =
    before8 alive serial r
    ++ ((8 when ((eqb r.code 1 || eqb r.code 3) && not (eqb row.sort 0) || eqb r.code 2 && not (eqb row.sort 1) || eqb r.code 11 && top)) ∷ [])

-- those after it
abbrev after9 : Row → Beside → Record → List Line
after9 row beside r =
    (10 when past_ceiling row r)
    ∷ (11 when too_much row r)
    ∷ (17 when held_by_mode beside.mode r)
    ∷ (12 when takes_blocked beside.below r)
    ∷ (13 when loses_cover row beside.passes r)
    ∷ (14 when not_retirable row beside.client r)
    ∷ []

-- and all
abbrev lines : ℕ → Bool → Row → Bool → Beside → Record → Bool → List Line
lines serial alive row top beside r full = before9 serial alive row top r ++ ((9 when full) ∷ after9 row beside r)

as-lines : (b : Book) (r : Record) → Sound b
    → refusal_of b r ≡ first (lines b.serial (is_live b r.account) (named_row b r) (eqb r.account 0) (beside_of b r) r (no_number_left b.count b.next r))
unfolding refusal_of
as-lines b r s = first-later 1 _ _ (ap not (sound← b s))

-- a moved row has the collateral that it had, also with something taken out
moved-below : (keep : ℕ → Bool) (row : Row) (held : ℕ) (r : Record) → left_below (moved_row keep row) held r ≡ left_below row held r
unfolding pick
moved-below keep row held r = by (eqb r.code 7)
  where
    by : (t : Bool)
        → ltb (collateral (pick t (with_allocated (moved_row keep row) (less_kinds row.allocated r.kinds)) (with_pledged (moved_row keep row) (row.pledged - r.pledged)))) held
        ≡ ltb (collateral (pick t (with_allocated row (less_kinds row.allocated r.kinds)) (with_pledged row (row.pledged - r.pledged)))) held
    by true = refl
    by false = refl

module _ {keep : ℕ → Bool} {b c : Book} (s : Sound b) (t : Sound c) (d : Thinned keep b c) (r : Record) where
  abbrev i : ℕ
  i = r.account

  sr : SoundRows b
  sr = sound-rows b s

  -- no more rows are held there, and as many numbers are given
  full-too : no_number_left c.count c.next r ≡ true → no_number_left b.count b.next r ≡ true
  full-too e =
      let h = and_split (is_opening r) (none_left c.count c.next) e in
      and-join h.0 (by (or_split (leb 256 c.count) (leb 65536 c.next) h.1))
    where
      by : (leb 256 c.count ≡ true) ⊎ (leb 65536 c.next ≡ true) → none_left b.count b.next ≡ true
      by (inl f) = or_left _ (le-leb 256 b.count (omega (arith, leb-true 256 c.count f, d.count, place-most keep b.count)))
      by (inr f) = or_right (leb 256 b.count) (sym (ap (leb 65536) d.next) ∙ f)

  module _ (l : i < b.count) (k : keep i ≡ true) where
    abbrev p : ℕ
    p = place_after keep i

    abbrev q : Record
    q = naming p r

    -- the lines here that come before 9, and all
    abbrev early : List Line
    early = before9 b.serial (is_live b i) (named_row b r) (eqb i 0) r

    abbrev here : Bool → List Line
    here = lines b.serial (is_live b i) (named_row b r) (eqb i 0) (beside_of b r) r

    same_beside : beside_of c q ≡ beside_of b r
    same_beside = λ j. record { mode = d.modes i l k j; below = below j; passes = passes j; client = same-live-client sr d i l k j }
      where
        below : (beside_of c q).below ≡ (beside_of b r).below
        below =
            ap (λ y. left_below (row_at c p) y r) (same-blocked sr d i l k) ∙ ap (λ y. left_below y (blocked (view b) i) r) (d.rows i l k)
            ∙ moved-below keep (row_at b i) (blocked (view b) i) r

        passes : (beside_of c q).passes ≡ (beside_of b r).passes
        passes = same-passes sr d i l k r.margin (omega (arith, s.most)) (omega (arith, s.most, place-most keep i)) (sound-rows c t)

    -- the table there is the table here, but for 9
    there : refusal_of c q ≡ first (here (no_number_left c.count c.next r))
    there =
        as-lines c q t
        ∙ same (no_number_left c.count c.next r) d.serial (same_live sr d i l k) (d.rows i l k) (same-top sr d i l k) same_beside
      where
        same : (full : Bool) {n n' : ℕ} {a a' : Bool} {x x' : Row} {z z' : Bool} {o o' : Beside} → n ≡ n' → a ≡ a' → x ≡ x' → z ≡ z' → o ≡ o'
            → first (lines n a x z o r full) ≡ first (lines n' a' x' z' o' r full)
        same full e₁ e₂ e₃ e₄ e₅ = rw (e₁, e₂, e₃, e₄, e₅)

    pub kept-verdict : (refusal_of b r ≡ 9 → ⊥) → refusal_of c q ≡ refusal_of b r
    kept-verdict ne =
        there ∙ first-but 9 early _ many (no_number_left c.count c.next r) (no_number_left b.count b.next r) not_there (λ e. ne (as-lines b r s ∙ e))
        ∙ sym (as-lines b r s)
      where
        many : Numbered early
        many = (omega arith, (omega arith, (omega arith, (omega arith, (omega arith, (omega arith, tt))))))

        not_there : first (here (no_number_left c.count c.next r)) ≡ 9 → ⊥
        not_there e =
            let f = first-names 9 early _ many refl refl (no_number_left c.count c.next r) e in
            ne (as-lines b r s ∙ ap (λ x. first (here x)) (full-too f ∙ sym f) ∙ e)

  -- an account that is live in neither book gives the same, 7 or what comes before it
  pub none-verdict : (p : ℕ) → is_live b i ≡ false → is_live c p ≡ false → refusal_of c (naming p r) ≡ refusal_of b r
  none-verdict p eb ec =
      as-lines c (naming p r) t
      ∙ seven ((3 when not (eqb r.serial c.serial)) ∷ faults r) _ _ ec eb (omega arith, (omega arith, (omega arith, (omega arith, tt))))
      ∙ ap (λ n. first (before8 (is_live b i) n r ++ from8 (named_row b r) b.count b.next (beside_of b r) r)) d.serial ∙ sym (as-lines b r s)
    where
      seven : (xs ys zs : List Line) {x y : Bool} → x ≡ false → y ≡ false → Numbered xs → first (xs ++ ((7 when not x) ∷ ys)) ≡ first (xs ++ ((7 when not y) ∷ zs))
      seven xs ys zs {x} {y} ex ey n = first-beyond xs _ _ n (λ e. first-here 7 (not x) ys (ap not ex) ∙ sym (first-here 7 (not y) zs (ap not ey)))

  -- THE LAW: the verdict is the same, 9 excepted
  pub same-verdict : (p : ℕ) → Meant keep b c i p → (refusal_of b r ≡ 9 → ⊥) → refusal_of c (naming p r) ≡ refusal_of b r
  same-verdict p (kept l k e) ne = rw e (kept-verdict l k ne)
  same-verdict p (none eb ec) ne = none-verdict p eb ec
