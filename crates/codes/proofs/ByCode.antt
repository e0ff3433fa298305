-- What each code's function answers is the table's answer for that code.
use mathlib.Core.List.{List}
use mathlib.Core.Logic.{inl, inr}
use mathlib.Core.Path.{◌≡◌, refl, sym, ap, ◌∙◌}
use mathlib.Core.Bool.{Bool, true, false}
use Prim.Native.Nat.{ℕ, ◌≤◌}
use native.Mathlib.Omega.{arith}
use lib.Dec.{leb}
use lib.ListN.{get_or}
use borrow.Author.Tests.{eq-eqb, leb-true}
use Rattle.sums.specs.Table.{first}
use Rattle.sums.proofs.Choices.{and_split, pick_yes, pick_no}
use Rattle.rows.specs.declared.Row.{Row}
use Rattle.rows.specs.Rows.{ceiling}
use Rattle.rows.specs.View.{blocked_of}
use Rattle.dayfile.specs.declared.Record.{Record}
use Rattle.rules.proofs.Amending.{by-receive, by-hand-back, by-allocate, by-release, by-pledge, by-unpledge, by-margin, by-set-pledged, by-set-margin, by-retire}
use Rattle.table.specs.declared.Marks.{Marks}
use Rattle.table.specs.Words.{row_in}
use Rattle.codes.specs.Own.{beside_in, need_passes_in, leaves_below, release_lines, unpledge_lines, margin_lines, Answered, Receives, HandsBack, Allocates, Releases, Pledges, Unpledges, SetsMargin, SetsPledged, RevisesMargin, Retires}
use Rattle.codes.specs.Asking.{names_kinds, names_one, names_margin, one_amount}
use Rattle.codes.proofs.Asking.{one-cases}
use Rattle.codes.proofs.Lines.{receive-own, left-own, release-own, pledge-own, unpledge-own, margin-own, none-own, retire-own}
use Rattle.codes.proofs.Made.{as-amended}

-- the last code is what is left
pub last-kinds : (n : ℕ) → names_kinds n ≡ true → (n ≡ 4 → ⊥) → (n ≡ 5 → ⊥) → (n ≡ 6 → ⊥) → n ≡ 7
last-kinds n h n4 n5 n6 = let s = and_split (leb 4 n) (leb n 7) h in omega (arith, leb-true 4 n s.0, leb-true n 7 s.1)

pub last_one : (n : ℕ) → names_one n ≡ true → (n ≡ 8 → ⊥) → (n ≡ 9 → ⊥) → (n ≡ 10 → ⊥) → (n ≡ 12 → ⊥) → n ≡ 13
last_one n h = one-cases (λ x. (x ≡ 8 → ⊥) → (x ≡ 9 → ⊥) → (x ≡ 10 → ⊥) → (x ≡ 12 → ⊥) → x ≡ 13) n h
    (λ a b c d. absurd (a refl)) (λ a b c d. absurd (b refl)) (λ a b c d. absurd (c refl)) (λ a b c d. absurd (d refl)) (λ a b c d. refl)

-- the one amount
pub pledged-is : (r : Record) → names_margin r.code ≡ false → r.pledged ≡ one_amount r
pledged-is r e = sym (pick_no _ _ _ e)

pub margin-is : (r : Record) → names_margin r.code ≡ true → r.margin ≡ one_amount r
margin-is r e = sym (pick_yes _ _ _ e)

module _ (count : ℕ) (m : Marks) (w under : List ℕ) (on : Bool) (r : Record) where
  abbrev row : Row
  row = row_in m w r.account

  module _ {k : ℕ} {u : List ℕ} where
    pub receive-answered : r.code ≡ 4 → Receives m w r.account r.kinds k u → Answered count m w under on r k m u
    receive-answered e h = as-amended (by-receive row r e) (receive-own row count 0 (beside_in count m w under on r) r e) h

    pub hands-back : r.code ≡ 5 → HandsBack m w r.account r.kinds k u → Answered count m w under on r k m u
    hands-back e h = as-amended (by-hand-back row r e) (left-own row count 0 (beside_in count m w under on r) r (inl e)) h

    pub allocate-answered : r.code ≡ 6 → Allocates m w r.account r.kinds k u → Answered count m w under on r k m u
    allocate-answered e h = as-amended (by-allocate row r e) (left-own row count 0 (beside_in count m w under on r) r (inr e)) h

    pub release-answered : r.code ≡ 7 → Releases m w under on r.account r.kinds k u → Answered count m w under on r k m u
    release-answered e h = as-amended (by-release row r e)
        (release-own row count 0 (beside_in count m w under on r) r e ∙ ap (λ x. first (release_lines row on (leaves_below row x (get_or under r.account 0)) r.kinds)) (pick_yes _ _ _ (eq-eqb _ _ e))) h

    pub pledge-answered : r.code ≡ 8 → Pledges m w r.account r.pledged k u → Answered count m w under on r k m u
    pledge-answered e h = as-amended (by-pledge row r e) (pledge-own row count 0 (beside_in count m w under on r) r e) h

    pub unpledge-answered : r.code ≡ 9 → Unpledges m w under on r.account r.pledged k u → Answered count m w under on r k m u
    unpledge-answered e h = as-amended (by-unpledge row r e)
        (unpledge-own row count 0 (beside_in count m w under on r) r e ∙ ap (λ x. first (unpledge_lines row on (leaves_below row x (get_or under r.account 0)) r.pledged)) (pick_no _ _ _ (rw e))) h

    pub sets-margin : r.code ≡ 10 → r.margin ≤ ceiling → SetsMargin m w under r.account r.margin k u → Answered count m w under on r k m u
    sets-margin e l h =
        let q : blocked_of r.margin ceiling ≡ r.margin = omega arith in
        as-amended (by-margin row r e)
        (margin-own row count 0 (beside_in count m w under on r) r e ∙ ap (λ y. first (margin_lines row r.margin (need_passes_in m w under r.account y))) q) h

    pub sets-pledged : r.code ≡ 12 → SetsPledged m w r.account r.pledged k u → Answered count m w under on r k m u
    sets-pledged e h = as-amended (by-set-pledged row r e) (none-own row count 0 (beside_in count m w under on r) r (inl e)) h

    pub revises-margin : r.code ≡ 13 → RevisesMargin m w r.account r.margin k u → Answered count m w under on r k m u
    revises-margin e h = as-amended (by-set-margin row r e) (none-own row count 0 (beside_in count m w under on r) r (inr e)) h

  pub retire-answered : {k : ℕ} {n : Marks} → r.code ≡ 11 → Retires m w count r.account k n → Answered count m w under on r k n w
  retire-answered e h = as-amended (by-retire row r e) (retire-own row count 0 (beside_in count m w under on r) r e) h
