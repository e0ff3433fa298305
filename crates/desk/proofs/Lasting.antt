-- What lasts: other rows, retired rows, and numbers once given.
use mathlib.Core.Bool.{Bool, true, false}
use mathlib.Core.Path.{◌≡◌, refl, sym, ap, ◌∙◌}
use Prim.Native.Nat.{ℕ, zero, suc, ◌+◌, ◌≤◌, ◌<◌}
use native.Mathlib.Omega.{arith}
use native.Mathlib.Decide.{ℕ_discrete, dec_le}
use lib.Dec.{leb, eqb}
use lib.Seq.{get_or-set_other}
use borrow.Author.Tests.{leb-false}
use Rattle.sums.specs.Choice.{pick}
use Rattle.sums.proofs.Choices.{test-clash, or-fails}
use Rattle.rows.specs.declared.Book.{Book}
use Rattle.rows.specs.Rows.{places, row_at, number_at, opened_row}
use Rattle.rows.proofs.RowPut.{row_other, opened-below}
use Rattle.dayfile.specs.declared.Record.{Record}
use Rattle.rules.specs.declared.Change.{Change}
use Rattle.rules.specs.declared.Change.TheVariants.{Refuse, Put, Open}
use Rattle.rules.specs.Refusals.{is_opening, none_left, named_row}
use Rattle.rules.specs.Effects.{amended, book_after}
use Rattle.rules.specs.Numbered.{placed, verdict_of, act_of}
use Rattle.rules.proofs.Passing.{Passes, passes-all}
use Rattle.desk.specs.declared.Outcome.TheVariants.{Opened, Refused}
use Rattle.desk.specs.Answers.{given_in, nobody, of_record, answer_of}
use Rattle.desk.specs.Steps.{step_of}
use Rattle.desk.proofs.Effect.{early-refusal, later-refusal, passed-as}

module _ (b : Book) (r : Record) where
  -- the record with its account told by the place of its row
  abbrev r' : Record
  r' = placed b r

  -- "A refusal changes no amount"
  pub refusal-keeps : 0 < verdict_of b r → ((i : ℕ) → row_at (step_of b r).book i ≡ row_at b i) × ((step_of b r).book.count ≡ b.count) × ((step_of b r).book.next ≡ b.next)
  refusal-keeps p = by (dec_le (verdict_of b r) 3)
    where
      by : Dec (verdict_of b r ≤ 3) → ((i : ℕ) → row_at (step_of b r).book i ≡ row_at b i) × ((step_of b r).book.count ≡ b.count) × ((step_of b r).book.next ≡ b.next)
      by (yes q) = let e = early-refusal b r p q in (λ i. ap (λ x. row_at x i) e, ap (λ x. x.count) e, ap (λ x. x.next) e)
      by (no q) = let e = later-refusal b r (omega arith) in (λ i. ap (λ x. row_at x i) e, ap (λ x. x.count) e, ap (λ x. x.next) e)

  -- where the record is an opening there is a row left
  pub room-left : Passes b r' → is_opening r ≡ true → b.count < places b
  room-left p e =
      let n : none_left b.count b.next ≡ false = rw e at p.number in
      omega (arith, leb-false 256 b.count (or-fails (leb 256 b.count) (leb 65536 b.next) n).0, p.sound.table)

  after : Bool → Book
  after t = book_after b r'.account (pick t (Open (opened_row r.code r'.account)) (Put (amended (named_row b r') r')))

  passed-book : verdict_of b r ≡ 0 → (step_of b r).book ≡ after (is_opening r)
  unfolding after
  passed-book e = ap (λ d. d.book) (passed-as b r e)

  -- "changes one row": every other account's row stays
  pub others-stay : (i : ℕ) → i < b.count → (i ≡ r'.account → ⊥) → row_at (step_of b r).book i ≡ row_at b i
  unfolding after pick
  others-stay i l ne = by (verdict_of b r) refl
    where
      passing : Passes b r' → (t : Bool) → is_opening r ≡ t → row_at (after t) i ≡ row_at b i
      passing p true e = opened-below b (opened_row r.code r'.account) (room-left p e) i l
      passing p false e = row_other b r'.account i (amended (named_row b r') r') ne

      by : (n : ℕ) → verdict_of b r ≡ n → row_at (step_of b r).book i ≡ row_at b i
      by zero e = ap (λ x. row_at x i) (passed-book e) ∙ passing (passes-all b r' e) (is_opening r) refl
      by (suc n) e = (refusal-keeps (omega (arith, e))).0 i

  -- "A retired account keeps its row and number": its row never changes again
  pub retired-stays : (i : ℕ) → i < b.count → (row_at b i).live ≡ false → row_at (step_of b r).book i ≡ row_at b i
  retired-stays i l dead = by (ℕ_discrete i r'.account) (ℕ_discrete (verdict_of b r) 0)
    where
      by : Dec (i ≡ r'.account) → Dec (verdict_of b r ≡ 0) → row_at (step_of b r).book i ≡ row_at b i
      by (no ne) q = others-stay i l ne
      by (yes e) (yes z) = test-clash (ap (λ k. (row_at b k).live) e ∙ (passes-all b r' z).live) dead
      by (yes e) (no z) = (refusal-keeps (omega arith)).0 i

  -- no record lowers the number of rows or the next number
  pub count-stays : (b.count ≤ (step_of b r).book.count) × (b.next ≤ (step_of b r).book.next)
  unfolding after pick
  count-stays = by (verdict_of b r) refl
    where
      passing : (t : Bool) → (b.count ≤ (after t).count) × (b.next ≤ (after t).next)
      passing true = (omega arith, omega arith)
      passing false = (omega arith, omega arith)

      by : (n : ℕ) → verdict_of b r ≡ n → (b.count ≤ (step_of b r).book.count) × (b.next ≤ (step_of b r).book.next)
      by zero e = rw (passed-book e) (passing (is_opening r))
      by (suc n) e = let k = refusal-keeps (omega (arith, e)) in (omega (arith, k.1), omega (arith, k.2))

  -- K11, "Numbers are kept with their rows": no record changes one that was there
  pub numbers_stay : (i : ℕ) → i < b.count → number_at (step_of b r).book i ≡ number_at b i
  unfolding after pick
  numbers_stay i l = by (verdict_of b r) refl (dec_le (verdict_of b r) 3)
    where
      passing : (t : Bool) → number_at (after t) i ≡ number_at b i
      passing true = get_or-set_other b.numbers b.count i b.next 0 (λ q. omega arith)
      passing false = refl

      by : (n : ℕ) → verdict_of b r ≡ n → Dec (verdict_of b r ≤ 3) → number_at (step_of b r).book i ≡ number_at b i
      by zero e d = ap (λ x. number_at x i) (passed-book e) ∙ passing (is_opening r)
      by (suc n) e (yes q) = ap (λ x. number_at x i) (early-refusal b r (omega (arith, e)) q)
      by (suc n) e (no q) = ap (λ x. number_at x i) (later-refusal b r (omega arith))

  -- "The next opening takes the next number."
  pub opened-next : (n : ℕ) → (step_of b r).answer.outcome ≡ Opened n → (n ≡ b.next) × ((step_of b r).book.next ≡ n + 1)
  unfolding step_of pick
  opened-next n e = by (act_of b r) e
    where
      by : (c : Change) → (answer_of b.next r c).outcome ≡ Opened n → (n ≡ b.next) × ((book_after b r'.account c).next ≡ n + 1)
      by (Refuse k) h = absurd (never (eqb k 1) h)
        where
          never : (t : Bool) → (pick t (nobody (Refused k)) (of_record r (Refused k))).outcome ≡ Opened n → ⊥
          never true q = let z : ◌≡◌ {A = ℕ} 0 1 = cc in omega arith
          never false q = let z : ◌≡◌ {A = ℕ} 0 1 = cc in omega arith
      by (Put x) h = absurd (let z : ◌≡◌ {A = ℕ} 0 1 = cc in omega arith)
      by (Open x) h = let k : n ≡ b.next = sym (ap given_in h) in (k, omega arith)
