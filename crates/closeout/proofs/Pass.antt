-- The pass over the accounts in rising number: where it stands at account i, and its turn.
use mathlib.Core.Path.{◌≡◌, refl, sym, ◌∙◌, ap}
use mathlib.Core.Bool.{false, not}
use mathlib.Core.List.{List, ◌++◌}
use Prim.Native.Nat.{ℕ, ◌+◌, ◌-◌, ◌*◌, ◌≤◌, ◌<◌, min}
use native.Mathlib.Omega.{arith}
use native.Mathlib.Decide.{ℕ_discrete}
use lib.Dec.{eqb}
use lib.ListN.{length, get_or, set, drop, length-set}
use Rattle.sums.specs.Sum.{sum, only}
use Rattle.sums.proofs.Sums.{sum_step, only-most}
use Rattle.rows.specs.declared.Account.{Account}
use Rattle.rows.specs.declared.Book.{Book}
use Rattle.rows.specs.View.{View, free_of, free, need}
use Rattle.rows.specs.Rows.{ceiling, row_at, collateral, view}
use Rattle.rows.specs.DeemedUnder.{account_at}
use Rattle.book.specs.Facts.{Sound}
use Rattle.closeout.specs.declared.pays.Paid.{Paid}
use Rattle.closeout.specs.declared.pays.Both.{Both}
use Rattle.closeout.specs.declared.pays.Purses.{Purses}
use Rattle.closeout.specs.Round.{own, left_tm, left_cm, from_cm}
use Rattle.closeout.specs.Columns.{is_client_or_cp, own_payment, purses₁, part₁, paid₁, purses₂, part₂, uncovered, four, rows_to, total}
use Rattle.closeout.specs.Closing.{loss_at}
use Rattle.closeout.specs.Inner.{paid_of, short_by, paid_by, both_of, rounds_by, after_own, four_of, put_at}
use Rattle.closeout.proofs.Payments.{from_tm-other}
use Rattle.closeout.proofs.ZeroColumns.{CM-third-is-0}
use Rattle.closeout.proofs.Cells.{four-long}
use Rattle.closeout.proofs.Steps.{left_cm-step}
use Rattle.closeout.proofs.RoundOne.{same_shape}
use Rattle.closeout.proofs.TwoRounds.{the_rest, open-most}
use Rattle.closeout.proofs.Rooms.{row_more, rows_all}
use Rattle.closeout.proofs.Turns.{left-turn, row-pays, its-four}

-- where the pass stands at account i: left and cm of round one, more and cm₂ of round two
pub record Passed (b : Book) (losses room₀ room left more : List ℕ) (cm cm₂ open-sum i : ℕ) : Type 0 where
  pub rows : room ≡ rows_to (four (view b) (loss_at losses)) i ++ drop (4 * i) room₀
  pub wide : length room ≡ length room₀
  pub size : length left ≡ 256
  pub size₂ : length more ≡ 256
  pub tms : (k : ℕ) → k < i → get_or left k 0 ≡ left_tm (purses₁ (view b)) (part₁ (view b) (loss_at losses)) k i
  pub tms₂ : (k : ℕ) → k < i → get_or more k 0 ≡ left_tm (purses₂ (view b)) (part₂ (view b) (loss_at losses)) k i
  pub cm-left : cm ≡ left_cm (purses₁ (view b)) (part₁ (view b) (loss_at losses)) i
  pub cm-left₂ : cm₂ ≡ left_cm (purses₂ (view b)) (part₂ (view b) (loss_at losses)) i
  pub open_is : open-sum ≡ sum i (uncovered (view b) (loss_at losses))

-- the CM's purses once its own parts are paid
module _ (v : View) (l : ℕ → ℕ) (top : v.sort 0 ≡ 0) where
  member : is_client_or_cp v 0 ≡ false
  member = rw top

  own_first : own (purses₁ v) (part₁ v l) 0 ≡ min (min (l 0) (v.margin 0)) (v.collateral 0)
  own_first = rw member (omega arith)

  paid-first : paid₁ v l 0 ≡ own (purses₁ v) (part₁ v l) 0
  unfolding paid₁
  paid-first = omega (arith, from_tm-other (purses₁ v) (part₁ v l) 0 (rw top), CM-third-is-0 (purses₁ v) (part₁ v l))

  left-second : part₂ v l 0 ≡ l 0 - min (min (l 0) (v.margin 0)) (v.collateral 0)
  unfolding part₂
  left-second = ap (λ x. l 0 - own_payment v l 0 - x) (paid-first ∙ own_first) ∙ rw member (omega arith)

  nothing-gone : (c x : ℕ) → c - x - 0 ≡ c - x
  nothing-gone c x = omega arith

  pub start_first : left_cm (purses₁ v) (part₁ v l) 0 ≡ v.collateral 0 - min (min (l 0) (v.margin 0)) (v.collateral 0)
  unfolding sum
  start_first =
      nothing-gone _ _ ∙ ap (λ x. only (not (is_client_or_cp v 0)) (v.collateral 0) - x) own_first
      ∙ ap (λ x. only (not x) (v.collateral 0) - min (min (l 0) (v.margin 0)) (v.collateral 0)) member

  pub start-second : left_cm (purses₂ v) (part₂ v l) 0 ≡ free v 0 - min (l 0 - min (min (l 0) (v.margin 0)) (v.collateral 0)) (free v 0)
  unfolding sum
  start-second =
      nothing-gone _ _
      ∙ ap (λ x. only (not x) (free v 0) - min (part₂ v l 0) (only (not x) (free v 0))) member
      ∙ ap (λ x. free v 0 - min x (free v 0)) left-second

-- the CM's own parts are paid
pub pass-start : (b : Book) (losses room left more : List ℕ) (under : ℕ) {x : Purses} → Sound b → length left ≡ 256 → length more ≡ 256
    → need (view b) 0 ≡ (row_at b 0).margin + under → x ≡ after_own (account_at (view b) 0) (loss_at losses 0) under
    → Passed b losses room room left more x.left x.free 0 0
unfolding rows_to sum after_own
pass-start b losses room left more under h n n₂ is-need e = record {
  rows = refl;
  wide = refl;
  size = n;
  size₂ = n₂;
  tms = λ k d. absurd (omega arith);
  tms₂ = λ k d. absurd (omega arith);
  cm-left = ap (λ x. x.left) e ∙ sym (start_first (view b) (loss_at losses) h.shaped.top);
  cm-left₂ = ap (λ x. x.free) e ∙ sym (start-second (view b) (loss_at losses) h.shaped.top ∙ ap (λ m. free_of m (collateral (row_at b 0)) - min (loss_at losses 0 - min (min (loss_at losses 0) (row_at b 0).margin) (collateral (row_at b 0))) (free_of m (collateral (row_at b 0)))) is-need);
  open_is = refl;
}

-- all accounts passed
pub pass-finish : {b : Book} {losses room₀ room left more : List ℕ} {cm cm₂ open-sum i : ℕ} → Passed b losses room₀ room left more cm cm₂ open-sum i
    → i ≡ b.count → length room₀ ≡ 4 * b.count
    → (room ≡ rows_to (four (view b) (loss_at losses)) b.count) × (open-sum ≡ total (view b) (loss_at losses))
pass-finish {b} {losses} {room₀} {room} at e n =
    let f : ℕ → List ℕ = four (view b) (loss_at losses) in (
      rows_all f (four-long (view b) (loss_at losses)) room₀ room b.count n (at.rows ∙ ap (λ (k : ℕ). rows_to f k ++ drop (4 * k) room₀) e),
      at.open_is ∙ ap (λ (k : ℕ). sum k (uncovered (view b) (loss_at losses))) e,
    )

-- the total so far fits
pub sum_fits : {b : Book} {losses room₀ room left more : List ℕ} {cm cm₂ open-sum i : ℕ} → Passed b losses room₀ room left more cm cm₂ open-sum i
    → ((k : ℕ) → k < b.count → loss_at losses k ≤ ceiling) → i ≤ b.count → open-sum ≤ i * ceiling
sum_fits {b} {losses} {i = i} at small m =
    omega (arith, at.open_is, open-most (view b) (loss_at losses) ceiling i (λ k d. small k (omega arith)))

-- a payer doesn't pay more than it has
tm-within : (sort purse ask tm cm : ℕ) → (paid_by sort purse ask tm cm).tm ≤ tm
unfolding paid_by
tm-within sort purse ask tm cm = omega (arith, only-most (eqb sort 2) (min (short_by purse ask) tm))

cm-within : (sort purse ask tm cm : ℕ) → (paid_by sort purse ask tm cm).cm ≤ cm
unfolding paid_by
cm-within sort purse ask tm cm = omega arith

module _ (r : Account) (loss under tm cm tm₂ cm₂ : ℕ) {p : Both} (e : p ≡ rounds_by r loss under tm cm tm₂ cm₂) where
  pub tm-has : p.first.tm ≤ tm
  unfolding rounds_by
  tm-has = rw e (tm-within _ _ _ tm cm)

  pub tm-has₂ : p.second.tm ≤ tm₂
  unfolding rounds_by
  tm-has₂ = rw e (tm-within _ _ _ tm₂ cm₂)

  pub cm-has : p.first.cm ≤ cm
  unfolding rounds_by
  cm-has = rw e (cm-within _ _ _ tm cm)

  pub cm-has₂ : p.second.cm ≤ cm₂
  unfolding rounds_by
  cm-has₂ = rw e (cm-within _ _ _ tm₂ cm₂)

-- the account that i names doesn't come after it
pub named-low : (b : Book) → Sound b → (i : ℕ) → i < b.count → (row_at b i).tm ≤ i
named-low b h i m = by (ℕ_discrete (row_at b i).sort 2)
  where
    by : Dec ((row_at b i).sort ≡ 2) → (row_at b i).tm ≤ i
    by (yes e) = omega (arith, (h.shaped.tms i m e).0)
    by (no e) = omega (arith, h.no-tm i m e)

module _ {b : Book} {losses room₀ room left more : List ℕ} {cm cm₂ open-sum i : ℕ} (h : Sound b) (m : i < b.count)
    (at : Passed b losses room₀ room left more cm cm₂ open-sum i) where
  abbrev t : ℕ
  t = (row_at b i).tm

  abbrev one : Paid
  one = paid_of (purses₁ (view b)) (part₁ (view b) (loss_at losses)) i

  abbrev two : Paid
  two = paid_of (purses₂ (view b)) (part₂ (view b) (loss_at losses)) i

  -- what an account pays in this turn
  pays-now : (under : ℕ) {p : Both} → need (view b) i ≡ (row_at b i).margin + under
      → p ≡ rounds_by (account_at (view b) i) (loss_at losses i) under (get_or left t 0) cm (get_or more t 0) cm₂
      → p ≡ both_of (own_payment (view b) (loss_at losses) i) one two
  pays-now under n e =
      e ∙ ap (λ x. rounds_by (account_at (view b) i) (loss_at losses i) under (get_or left t 0) x (get_or more t 0) cm₂) at.cm-left
      ∙ ap (rounds_by (account_at (view b) i) (loss_at losses i) under (get_or left t 0) _ (get_or more t 0)) at.cm-left₂
      ∙ row-pays b (loss_at losses) i under (get_or left t 0) (get_or more t 0) n (λ c. at.tms t (h.shaped.tms i m c).0) (λ c. at.tms₂ t (h.shaped.tms i m c).0)

  pub pass-turn : (under : ℕ) {p : Both} {room' : List ℕ} → need (view b) i ≡ (row_at b i).margin + under
      → p ≡ rounds_by (account_at (view b) i) (loss_at losses i) under (get_or left t 0) cm (get_or more t 0) cm₂
      → room' ≡ put_at room (4 * i) (four_of p) → length room' ≡ length room
      → Passed b losses room₀ room' (set (set left t (get_or left t 0 - p.first.tm)) i p.first.left)
      (set (set more t (get_or more t 0 - p.second.tm)) i p.second.left) (cm - p.first.cm) (cm₂ - p.second.cm) (open-sum + p.second.unpaid) (i + 1)
  unfolding paid_of
  pass-turn under {p} {room'} n e r same =
      let v : View = view b in
      let l : ℕ → ℕ = loss_at losses in
      let q : p ≡ both_of (own_payment (view b) (loss_at losses) i) one two = pays-now under n e in
      let low : i < 256 = omega (arith, h.most) in
      let written : room' ≡ rows_to (four (view b) (loss_at losses)) (i + 1) ++ drop (4 * (i + 1)) room₀ =
      r ∙ ap (λ x. put_at room (4 * i) (four_of x)) q
      ∙ ap (put_at room (4 * i)) (its-four b (loss_at losses) i under (get_or left t 0) (get_or more t 0) n (λ c. at.tms t (h.shaped.tms i m c).0) (λ c. at.tms₂ t (h.shaped.tms i m c).0))
      ∙ row_more (four (view b) (loss_at losses)) (four-long (view b) (loss_at losses)) room₀ room i at.rows in
      record {
        rows = written;
        wide = same ∙ at.wide;
        size = simp length-set at.size;
        size₂ = simp length-set at.size₂;
        tms = λ k d. ap (λ x. get_or (set (set left t (get_or left t 0 - x.first.tm)) i x.first.left) k 0) q
            ∙ left-turn (purses₁ v) (same_shape v v.collateral h.shaped) (part₁ v l) i m left (omega (arith, at.size)) at.tms k d;
        tms₂ = λ k d. ap (λ x. get_or (set (set more t (get_or more t 0 - x.second.tm)) i x.second.left) k 0) q
            ∙ left-turn (purses₂ v) (same_shape v (free v) h.shaped) (part₂ v l) i m more (omega (arith, at.size₂)) at.tms₂ k d;
        cm-left = ap (λ x. cm - x.first.cm) q
            ∙ ap (λ (c : ℕ). c - from_cm (purses₁ v) (part₁ v l) i) at.cm-left
            ∙ sym (left_cm-step (purses₁ v) (part₁ v l) i);
        cm-left₂ = ap (λ x. cm₂ - x.second.cm) q
            ∙ ap (λ (c : ℕ). c - from_cm (purses₂ v) (part₂ v l) i) at.cm-left₂
            ∙ sym (left_cm-step (purses₂ v) (part₂ v l) i);
        open_is = ap (λ x. open-sum + x.second.unpaid) q
            ∙ ap (λ x. open-sum + x) (sym (the_rest v l i))
            ∙ ap (λ (c : ℕ). c + uncovered v l i) at.open_is
            ∙ sym (sum_step i (uncovered v l));
      }
