-- The rows of the book after a record that is carried out: the one named, the one opened, and what stays of each.
use mathlib.Core.Bool.{Bool, true, false}
use mathlib.Core.Path.{◌≡◌, refl, sym, ap, ◌∙◌}
use Prim.Native.Nat.{ℕ, ◌<◌}
use native.Mathlib.Omega.{arith}
use native.Mathlib.Decide.{ℕ_discrete}
use Rattle.sums.proofs.Choices.{pick_yes, pick_no}
use Rattle.rows.specs.declared.Row.{Row}
use Rattle.rows.specs.declared.Book.{Book}
use Rattle.rows.specs.Rows.{row_at, opened_row, with_row, with_new}
use Rattle.rows.specs.KeptNeeds.{settled}
use Rattle.rows.proofs.RowPut.{row_same, opened-new, opened-below}
use Rattle.dayfile.specs.declared.Record.{Record}
use Rattle.rules.specs.Refusals.{is_opening, named_row}
use Rattle.rules.specs.Effects.{amended, moved_on}
use Rattle.rules.specs.Numbered.{placed, verdict_of}
use Rattle.rules.proofs.Moves.{amended-same}
use Rattle.rules.proofs.Passing.{Passes, passes-all}
use Rattle.desk.specs.declared.Outcome.TheVariants.{CarriedOut, Opened}
use Rattle.desk.specs.Answers.{refusal_in}
use Rattle.desk.specs.Steps.{done_by, step_of}
use Rattle.desk.proofs.Effect.{passed-as, answer-number}
use Rattle.desk.proofs.Lasting.{refusal-keeps, room-left, others-stay}

module _ (b : Book) (r : Record) where
  -- the record with its account told by the place of its row
  abbrev r' : Record
  r' = placed b r

  module _ (carried : verdict_of b r ≡ 0) where
    passes : Passes b r'
    passes = passes-all b r' carried

    module _ (o : is_opening r ≡ false) where
      -- the whole book then
      pub put-book : (step_of b r).book ≡ settled (moved_on (with_row b r'.account (amended (named_row b r') r')))
      put-book = ap (λ d. d.book) (passed-as b r carried ∙ ap (done_by b r) (pick_no (is_opening r) _ _ o))

      -- the row named is the row that the code makes of it
      pub named-after : row_at (step_of b r).book r'.account ≡ amended (named_row b r') r'
      named-after =
          ap (λ x. row_at x r'.account) put-book
          ∙ row_same b r'.account (amended (named_row b r') r') (omega (arith, passes.account, passes.sound.most, passes.sound.table))

    module _ (o : is_opening r ≡ true) where
      open-book : (step_of b r).book ≡ settled (moved_on (with_new b (opened_row r.code r'.account)))
      open-book = ap (λ d. d.book) (passed-as b r carried ∙ ap (done_by b r) (pick_yes (is_opening r) _ _ o))

      -- the next number's row is the one opened, and each row there was stays
      pub new-after : row_at (step_of b r).book b.count ≡ opened_row r.code r'.account
      new-after = ap (λ x. row_at x b.count) open-book ∙ opened-new b (opened_row r.code r'.account) (room-left b r passes o)

      pub open-deemed : (i : ℕ) → i < b.count → row_at (step_of b r).book i ≡ row_at b i
      open-deemed i l = ap (λ x. row_at x i) open-book ∙ opened-below b (opened_row r.code r'.account) (room-left b r passes o) i l

  -- by the answer
  pub opened-keeps : (n : ℕ) → (step_of b r).answer.outcome ≡ Opened n → (i : ℕ) → i < b.count → row_at (step_of b r).book i ≡ row_at b i
  opened-keeps n e i l = by (is_opening r) refl
    where
      carried : verdict_of b r ≡ 0
      carried = sym (answer-number b r) ∙ ap refusal_in e

      by : (t : Bool) → is_opening r ≡ t → row_at (step_of b r).book i ≡ row_at b i
      by true o = open-deemed carried o i l
      by false o =
          let p = passed-as b r carried ∙ ap (done_by b r) (pick_no (is_opening r) _ _ o) in
          let q : CarriedOut ≡ Opened n = sym (ap (λ d. d.answer.outcome) p) ∙ e in
          absurd (let z : ◌≡◌ {A = ℕ} 0 1 = cc in omega arith)

  -- no record changes an account's sort or its TM
  pub sort-stays : (i : ℕ) → i < b.count → ((row_at (step_of b r).book i).sort ≡ (row_at b i).sort) × ((row_at (step_of b r).book i).tm ≡ (row_at b i).tm)
  sort-stays i l = by (ℕ_discrete i r'.account) (ℕ_discrete (verdict_of b r) 0) (is_opening r) refl
    where
      same : (x : Row) → row_at (step_of b r).book i ≡ x → (x.sort ≡ (row_at b i).sort) × (x.tm ≡ (row_at b i).tm)
          → ((row_at (step_of b r).book i).sort ≡ (row_at b i).sort) × ((row_at (step_of b r).book i).tm ≡ (row_at b i).tm)
      same x e p = rw e p

      by : Dec (i ≡ r'.account) → Dec (verdict_of b r ≡ 0) → (t : Bool) → is_opening r ≡ t
          → ((row_at (step_of b r).book i).sort ≡ (row_at b i).sort) × ((row_at (step_of b r).book i).tm ≡ (row_at b i).tm)
      by (no ne) q t o = same _ (others-stay b r i l ne) (refl, refl)
      by (yes e) (no z) t o =
          same _ ((refusal-keeps b r (omega arith)).0 i) (refl, refl)
      by (yes e) (yes z) true o = same _ (open-deemed z o i l) (refl, refl)
      by (yes e) (yes z) false o =
          let k = amended-same (named_row b r') r' in
          same _ (ap (row_at (step_of b r).book) e ∙ named-after z o)
          (k.0 ∙ ap (λ j. (row_at b j).sort) (sym e), k.1 ∙ ap (λ j. (row_at b j).tm) (sym e))
