-- The modes (K2) and the kept needs (K3) after a record: looked at and worked out afresh after one that is carried out, as they were at a refusal.
use mathlib.Core.Bool.{Bool, true, false}
use mathlib.Core.List.{List}
use mathlib.Core.Path.{◌≡◌, refl, sym, ap, ◌∙◌}
use Prim.Native.Nat.{ℕ, ◌≤◌, ◌<◌}
use native.Mathlib.Omega.{arith}
use native.Mathlib.Decide.{ℕ_discrete, dec_le, dec_lt}
use lib.ListN.{get_or, set}
use lib.Seq.{get_or-set_other}
use Rattle.sums.specs.Choice.{pick}
use Rattle.sums.proofs.Choices.{pick_yes, pick_no}
use Rattle.rows.specs.declared.Row.{Row}
use Rattle.rows.specs.declared.Book.{Book}
use Rattle.rows.specs.Rows.{mode_at, need_at, opened_row, view, with_modes, with_needs, with_row, with_new}
use Rattle.rows.specs.Modes.{look_at, looked}
use Rattle.rows.specs.KeptNeeds.{kept_need, needs_afresh, settled}
use Rattle.rows.specs.Inner.{Slot}
use Rattle.rows.proofs.Looks.{looked-at, look_twice}
use Rattle.rows.proofs.KeptNeeds.{afresh-at}
use Rattle.book.specs.Facts.{Sound}
use Rattle.dayfile.specs.declared.Record.{Record}
use Rattle.rules.specs.declared.Change.TheVariants.{Put, Open}
use Rattle.rules.specs.Refusals.{is_opening, named_row}
use Rattle.rules.specs.Effects.{amended, effect_of, moved_on, changed_by, book_after}
use Rattle.rules.specs.Numbered.{placed, verdict_of}
use Rattle.rules.proofs.Passing.{passes-all}
use Rattle.rules.proofs.Deciding.{passes-as}
use Rattle.rules.proofs.Moves.{put-looks, put-aside, open-looks, open-needs}
use Rattle.desk.specs.Steps.{step_of}
use Rattle.desk.proofs.Effect.{early-refusal, later-refusal, passed-as}

module _ (b : Book) (r : Record) where
  -- the record with its account told by the place of its row
  abbrev r' : Record
  r' = placed b r

  abbrev new_row : Row
  new_row = opened_row r.code r'.account

  abbrev put_row : Row
  put_row = amended (named_row b r') r'

  -- the change alone leaves the modes
  modes-same : (t : Bool) → (changed_by b r'.account (pick t (Open new_row) (Put put_row))).modes ≡ b.modes
  unfolding pick
  modes-same true = refl
  modes-same false = refl

  -- what is carried out ends in a look, with needs worked out afresh
  pub carried-book : verdict_of b r ≡ 0
      → (step_of b r).book ≡ settled (changed_by b r'.account (effect_of (named_row b r') r'.account r'))
  unfolding pick
  carried-book e = ap (λ d. d.book) (passed-as b r e) ∙ by (is_opening r)
    where
      by : (t : Bool) → book_after b r'.account (pick t (Open new_row) (Put put_row)) ≡ settled (changed_by b r'.account (pick t (Open new_row) (Put put_row)))
      by true = refl
      by false = refl

  -- at the figures after the record, from the modes before it
  pub modes-after : verdict_of b r ≡ 0 → (step_of b r).book.modes ≡ looked (view (step_of b r).book) b.modes
  modes-after e =
      let c = changed_by b r'.account (effect_of (named_row b r') r'.account r') in
      ap (λ x. x.modes) (carried-book e) ∙ ap (looked (view c)) (modes-same (is_opening r)) ∙ sym (ap (λ x. looked (view x) b.modes) (carried-book e))

  pub mode-after : verdict_of b r ≡ 0 → (i : ℕ) → i < 256 → mode_at (step_of b r).book i ≡ look_at (view (step_of b r).book) b.modes i
  mode-after e i l = ap (λ m. get_or m i false) (modes-after e) ∙ looked-at (view (step_of b r).book) b.modes i l

  pub modes-stay : 0 < verdict_of b r → (step_of b r).book.modes ≡ b.modes
  modes-stay p = by (dec_le (verdict_of b r) 3)
    where
      by : Dec (verdict_of b r ≤ 3) → (step_of b r).book.modes ≡ b.modes
      by (yes q) = ap (λ x. x.modes) (early-refusal b r p q)
      by (no q) = ap (λ x. x.modes) (later-refusal b r (omega arith))

  -- K3, "worked out afresh"
  pub needs-after : verdict_of b r ≡ 0 → (step_of b r).book.needs ≡ needs_afresh (view (step_of b r).book)
  needs-after e = ap (λ x. x.needs) (carried-book e) ∙ sym (ap (λ x. needs_afresh (view x)) (carried-book e))

  pub needs_stay : 0 < verdict_of b r → (step_of b r).book.needs ≡ b.needs
  needs_stay p = by (dec_le (verdict_of b r) 3)
    where
      by : Dec (verdict_of b r ≤ 3) → (step_of b r).book.needs ≡ b.needs
      by (yes q) = ap (λ x. x.needs) (early-refusal b r p q)
      by (no q) = ap (λ x. x.needs) (later-refusal b r (omega arith))

  -- a second look, and needs worked out once more, leave the book after
  pub looked-after : verdict_of b r ≡ 0 → settled (step_of b r).book ≡ (step_of b r).book
  looked-after e =
      let c = (step_of b r).book in
      ap (λ l. with_needs (with_modes c l) (needs_afresh (view c))) (ap (looked (view c)) (modes-after e) ∙ look_twice (view c) b.modes ∙ sym (modes-after e))
      ∙ ap (with_needs c) (sym (needs-after e))

  -- and where a look leaves the book, it leaves the book after a refusal too
  pub been-looked : settled b ≡ b → settled (step_of b r).book ≡ (step_of b r).book
  been-looked been = by (ℕ_discrete (verdict_of b r) 0) (dec_le (verdict_of b r) 3)
    where
      by : Dec (verdict_of b r ≡ 0) → Dec (verdict_of b r ≤ 3) → settled (step_of b r).book ≡ (step_of b r).book
      by (yes e) d = looked-after e
      by (no e) (yes l) = rw (early-refusal b r (omega arith) l) been
      by (no e) (no l) = rw (later-refusal b r (omega arith)) (ap moved_on been)

  -- where the modes are those that a look leaves, a record moves three of them at most
  module _ (been : looked (view b) b.modes ≡ b.modes) (i : ℕ) (own : i ≡ r'.account → ⊥) (its : i ≡ (named_row b r').tm → ⊥) (top : i ≡ 0 → ⊥) where
    before : get_or (looked (view b) b.modes) i false ≡ mode_at b i
    before = ap (λ l. get_or l i false) been

    -- the look after an opening, and after any other record
    abbrev w : Bool → List Bool
    w true = looked (view (with_new b new_row)) b.modes
    w false = looked (view (with_row b r'.account put_row)) b.modes

    carried : verdict_of b r ≡ 0 → (t : Bool) → is_opening r ≡ t → get_or (w t) i false ≡ mode_at b i
    carried e true o = ap (λ m. get_or m i false) (open-looks b r' new_row (passes-all b r' e).sound (passes-as b r' new_row (passes-all b r' e) e ∙ pick_yes (is_opening r) _ _ o) b.modes) ∙ before
    carried e false o = three (dec_lt (named_row b r').tm 256)
      where
        -- the place of the account's TM, or some place where the table has no such place
        at : (p : ℕ) → Slot (named_row b r').tm p → (i ≡ p → ⊥) → get_or (w false) i false ≡ mode_at b i
        at p s n =
            let v = view (with_row b r'.account put_row) in
            let l = looked (view b) b.modes in
            let l₁ = set l r'.account (look_at v b.modes r'.account) in
            let l₂ = set l₁ p (look_at v b.modes p) in
            ap (λ m. get_or m i false) (put-looks b r' put_row (passes-all b r' e).sound (passes-as b r' put_row (passes-all b r' e) e ∙ pick_no (is_opening r) _ _ o) b.modes p s)
            ∙ get_or-set_other l₂ 0 i (look_at v b.modes 0) false top
            ∙ get_or-set_other l₁ p i (look_at v b.modes p) false n
            ∙ get_or-set_other l r'.account i (look_at v b.modes r'.account) false own
            ∙ before

        three : Dec ((named_row b r').tm < 256) → get_or (w false) i false ≡ mode_at b i
        three (yes q) = at (named_row b r').tm (record { inside = q; named = λ h. refl }) its
        three (no q) = at 0 (record { inside = omega arith; named = λ h. absurd (q h) }) top

    pub others-stay-in : mode_at (step_of b r).book i ≡ mode_at b i
    unfolding pick
    others-stay-in = by (ℕ_discrete (verdict_of b r) 0)
      where
        put : (t : Bool) → (settled (changed_by b r'.account (pick t (Open new_row) (Put put_row)))).modes ≡ w t
        put true = refl
        put false = refl

        by : Dec (verdict_of b r ≡ 0) → mode_at (step_of b r).book i ≡ mode_at b i
        by (yes e) = ap (λ x. mode_at x i) (carried-book e) ∙ ap (λ m. get_or m i false) (put (is_opening r)) ∙ carried e (is_opening r) refl
        by (no e) = ap (λ m. get_or m i false) (modes-stay (omega arith))

  -- K3: of a sound book's kept needs a record moves three at most
  module _ (sound : Sound b) (i : ℕ) (l : i < 256) (own : i ≡ r'.account → ⊥) (its : i ≡ (named_row b r').tm → ⊥) (top : i ≡ 0 → ⊥) where
    abbrev needs' : Bool → List ℕ
    needs' true = needs_afresh (view (with_new b new_row))
    needs' false = needs_afresh (view (with_row b r'.account put_row))

    kept-now : kept_need (view b) i ≡ need_at b i
    kept-now = sym (sound.kept i l)

    moved : verdict_of b r ≡ 0 → (t : Bool) → is_opening r ≡ t → get_or (needs' t) i 0 ≡ need_at b i
    moved e true o =
        ap (λ m. get_or m i 0) (open-needs b r' new_row sound (passes-as b r' new_row (passes-all b r' e) e ∙ pick_yes (is_opening r) _ _ o))
        ∙ afresh-at (view b) i l ∙ kept-now
    moved e false o = afresh-at (view (with_row b r'.account put_row)) i l ∙ aside (dec_lt (named_row b r').tm 256) ∙ kept-now
      where
        at : (p : ℕ) → Slot (named_row b r').tm p → (i ≡ p → ⊥) → kept_need (view (with_row b r'.account put_row)) i ≡ kept_need (view b) i
        at p s n = put-aside b r' put_row sound (passes-as b r' put_row (passes-all b r' e) e ∙ pick_no (is_opening r) _ _ o) p s i own n top

        aside : Dec ((named_row b r').tm < 256) → kept_need (view (with_row b r'.account put_row)) i ≡ kept_need (view b) i
        aside (yes q) = at (named_row b r').tm (record { inside = q; named = λ h. refl }) its
        aside (no q) = at 0 (record { inside = omega arith; named = λ h. absurd (q h) }) top

    pub other-needs-stay : need_at (step_of b r).book i ≡ need_at b i
    unfolding pick
    other-needs-stay = by (ℕ_discrete (verdict_of b r) 0)
      where
        put : (t : Bool) → (settled (changed_by b r'.account (pick t (Open new_row) (Put put_row)))).needs ≡ needs' t
        put true = refl
        put false = refl

        by : Dec (verdict_of b r ≡ 0) → need_at (step_of b r).book i ≡ need_at b i
        by (yes e) = ap (λ x. need_at x i) (carried-book e) ∙ ap (λ m. get_or m i 0) (put (is_opening r)) ∙ moved e (is_opening r) refl
        by (no e) = ap (λ m. get_or m i 0) (needs_stay (omega arith))
