-- What one account's turn pays and leaves, over plain values.
use mathlib.Core.Path.{◌≡◌, refl, sym, ◌∙◌, ap}
use mathlib.Core.Bool.{Bool, true, false, not}
use mathlib.Core.List.{List, [], ◌∷◌}
use Prim.Native.Nat.{ℕ, ◌+◌, ◌-◌, ◌≤◌, ◌<◌, min}
use native.Mathlib.Omega.{arith}
use native.Mathlib.Decide.{ℕ_discrete}
use lib.Dec.{eqb}
use lib.ListN.{length, get_or, set, length-set}
use lib.Seq.{get_or-set_same, get_or-set_other}
use borrow.Author.Tests.{eqb-true}
use Rattle.sums.specs.Sum.{only}
use Rattle.rows.specs.declared.Account.{Account}
use Rattle.rows.specs.declared.Book.{Book}
use Rattle.rows.specs.View.{View, is_client, free_of, need}
use Rattle.rows.specs.Facts.{Shaped}
use Rattle.rows.specs.DeemedUnder.{account_at}
use Rattle.rows.specs.Rows.{row_at, collateral, view}
use Rattle.closeout.specs.Round.{own, short, left_tm, from_tm, asked_of_cm, left_cm, from_cm, unpaid}
use Rattle.closeout.specs.Columns.{own_payment, purses₁, part₁, paid₁, purses₂, part₂, own_column, tm_column, cm_column, four}
use Rattle.closeout.specs.declared.pays.Paid.{Paid}
use Rattle.closeout.specs.declared.pays.Purses.{Purses}
use Rattle.closeout.specs.Inner.{paid_of, tm_by, asked_by, paid_by, client_or_cp_by, own_payment_by, part₁by, purse_by, free_by, part₂by, both_of, rounds_by, after_own, four_of}
use Rattle.closeout.proofs.Payments.{beyond-min}
use Rattle.closeout.proofs.TwoRounds.{the_rest}
use Rattle.closeout.proofs.Steps.{not_named, left_tm-other, left_tm-named, left_tm-own}

-- what is worked out one after the other is what an account pays in a round
pub by-steps : (sort purse ask tm cm : ℕ) {own most from-tm from-cm : ℕ} → own ≡ min ask purse → most ≡ min (ask - own) tm
    → from-tm ≡ only (eqb sort 2) most → from-cm ≡ min (ask - own - from-tm) cm
    → record { own = own; tm = from-tm; cm = from-cm; unpaid = ask - own - from-tm - from-cm; left = purse - own } ≡ paid_by sort purse ask tm cm
unfolding paid_by
by-steps sort purse ask tm cm {own} {most} {from-tm} {from-cm} e₂ e₃ e₄ e₅ =
    let rest = beyond-min (ask - own - from-tm) cm in
    cc

-- a round's amounts add up to what it is asked for
paid-all : (a c t d : ℕ) → t ≤ a - min a c → min a c + t + min (a - min a c - t) d + (a - min a c - t - d) ≡ a
paid-all a c t d h = omega arith

pub paid-adds : (sort purse ask tm cm : ℕ) {p : Paid} → p ≡ paid_by sort purse ask tm cm → p.own + p.tm + p.cm + p.unpaid ≡ ask
unfolding paid_by
paid-adds sort purse ask tm cm e = rw e (paid-all ask purse (tm_by sort purse ask tm) cm (at_most (eqb sort 2)))
  where
    at_most : (t : Bool) → only t (min (ask - min ask purse) tm) ≤ ask - min ask purse
    at_most true = omega arith
    at_most false = omega arith

-- own payment, and then what round one pays, is within the loss
pub own-fits : (t : Bool) (loss c low paid : ℕ) → low ≡ min loss c → paid ≡ only t low → paid ≤ loss
own-fits true loss c low paid e q = omega arith
own-fits false loss c low paid e q = omega arith

pub first_fits : (loss m a n ask s left : ℕ) → a ≤ loss → n ≡ min loss m → ask ≡ n - a → s + left ≡ ask → a + s ≤ loss
first_fits loss m a n ask s left h e q p = omega arith

-- what is worked out one after the other is what an account pays in both rounds
pub by-rounds : (r : Account) (loss under tm cm tm₂ cm₂ : ℕ) {f low paid most ask purse spare : ℕ} {p q : Paid}
    → f ≡ free_of (r.margin + under) r.collateral → low ≡ min loss r.collateral → paid ≡ only (client_or_cp_by r) low → most ≡ min loss r.margin → ask ≡ most - paid
    → purse ≡ only (not (client_or_cp_by r)) r.collateral → p ≡ paid_by r.sort purse ask tm cm → spare ≡ only (not (client_or_cp_by r)) f
    → q ≡ paid_by r.sort spare (loss - paid - (p.own + p.tm + p.cm)) tm₂ cm₂ → both_of paid p q ≡ rounds_by r loss under tm cm tm₂ cm₂
unfolding rounds_by
by-rounds r loss under tm cm tm₂ cm₂ {f} {low} {paid} {most} {ask} {purse} {spare} {p} {q} e₂ e₃ e₄ e₅ e₆ e₇ e₈ e₉ e₀ =
    let a : paid ≡ own_payment_by r loss = cc in
    let k : ask ≡ part₁by r loss = cc in
    let s : spare ≡ free_by r under = cc in
    let one : p ≡ paid_by r.sort (purse_by r) (part₁by r loss) tm cm = e₈ ∙ ap (λ x. paid_by r.sort x ask tm cm) e₇ ∙ ap (λ x. paid_by r.sort (purse_by r) x tm cm) k in
    let d : loss - paid - (p.own + p.tm + p.cm) ≡ part₂by r loss (paid_by r.sort (purse_by r) (part₁by r loss) tm cm) =
    ap (λ x. loss - x - (p.own + p.tm + p.cm)) a ∙ ap (part₂by r loss) one in
    let two : q ≡ paid_by r.sort (free_by r under) (part₂by r loss (paid_by r.sort (purse_by r) (part₁by r loss) tm cm)) tm₂ cm₂ =
    e₀ ∙ ap (λ x. paid_by r.sort x (loss - paid - (p.own + p.tm + p.cm)) tm₂ cm₂) s ∙ ap (λ x. paid_by r.sort (free_by r under) x tm₂ cm₂) d in
    ap (λ x. both_of x p q) a ∙ ap (λ x. both_of (own_payment_by r loss) x q) one ∙ ap (both_of (own_payment_by r loss) _) two

-- the same of the CM's own parts
pub by-own : (a : Account) (loss under : ℕ) {f m own second : ℕ} → f ≡ free_of (a.margin + under) a.collateral → m ≡ min loss a.margin
    → own ≡ min m a.collateral → second ≡ min (loss - own) f → ◌≡◌ {A = Purses} (record { left = a.collateral - own; free = f - second }) (after_own a loss under)
unfolding after_own
by-own a loss under {f} {m} {own} {second} e₁ e₂ e₃ e₄ = rw (e₄, e₃, e₂, e₁)

-- what is left of each collateral, one account further
module _ (v : View) (s : Shaped v) (l : ℕ → ℕ) (i : ℕ) (m : i < v.count) (left : List ℕ) (long : i < length left)
    (stands : (k : ℕ) → k < i → get_or left k 0 ≡ left_tm v l k i) where
  abbrev less : List ℕ
  less = set left (v.tm i) (get_or left (v.tm i) 0 - from_tm v l i)

  lessens : (k : ℕ) → k < i → get_or less k 0 ≡ left_tm v l k (i + 1)
  lessens k q = by (ℕ_discrete k (v.tm i))
    where
      by : Dec (k ≡ v.tm i) → get_or less k 0 ≡ left_tm v l k (i + 1)
      by (yes e) =
          let low : v.tm i < i = omega arith in
          rw e
          (get_or-set_same left (v.tm i) _ 0 (omega arith)
          ∙ ap (λ (x : ℕ). x - from_tm v l i) (stands (v.tm i) low)
          ∙ sym (left_tm-named v l i))
      by (no e) =
          get_or-set_other left (v.tm i) k _ 0 e ∙ stands k q ∙ sym (left_tm-other v l k i (not_named v k i (λ r. e (sym r))))

  pub left-turn : (k : ℕ) → k < i + 1 → get_or (set less i (v.collateral i - own v l i)) k 0 ≡ left_tm v l k (i + 1)
  left-turn k q = by (ℕ_discrete k i)
    where
      by : Dec (k ≡ i) → get_or (set less i (v.collateral i - own v l i)) k 0 ≡ left_tm v l k (i + 1)
      by (yes e) = rw e (get_or-set_same less i _ 0 (rw (length-set left (v.tm i) _) long) ∙ sym (left_tm-own v s l i m))
      by (no e) = get_or-set_other less i k _ 0 e ∙ lessens k (omega arith)

-- what a round's account pays is what its columns say
module _ (v : View) (l : ℕ → ℕ) (i tm : ℕ) (has : v.sort i ≡ 2 → tm ≡ left_tm v l (v.tm i) i) where
  tm-paid : tm_by (v.sort i) (v.collateral i) (l i) tm ≡ from_tm v l i
  unfolding from_tm
  tm-paid = by (is_client v i) refl
    where
      by : (t : Bool) → is_client v i ≡ t → only t (min (short v l i) tm) ≡ only t (min (short v l i) (left_tm v l (v.tm i) i))
      by true e = ap (min (short v l i)) (has (eqb-true _ _ e))
      by false e = refl

  cm-asked : asked_by (v.sort i) (v.collateral i) (l i) tm ≡ asked_of_cm v l i
  unfolding asked_of_cm
  cm-asked = ap (λ (x : ℕ). short v l i - x) tm-paid

  pub account-pays : paid_by (v.sort i) (v.collateral i) (l i) tm (left_cm v l i) ≡ paid_of v l i
  unfolding paid_by paid_of from_cm unpaid
  account-pays = λ j. record {
    own = own v l i;
    tm = tm-paid j;
    cm = min (cm-asked j) (left_cm v l i);
    unpaid = cm-asked j - left_cm v l i;
    left = v.collateral i - own v l i;
  }

-- so a row's two rounds are its account's
module _ (b : Book) (l : ℕ → ℕ) (i under tm tm₂ : ℕ) (need-is : need (view b) i ≡ (row_at b i).margin + under)
    (has : (row_at b i).sort ≡ 2 → tm ≡ left_tm (purses₁ (view b)) (part₁ (view b) l) (row_at b i).tm i)
    (has₂ : (row_at b i).sort ≡ 2 → tm₂ ≡ left_tm (purses₂ (view b)) (part₂ (view b) l) (row_at b i).tm i) where
  abbrev one : Paid
  one = paid_of (purses₁ (view b)) (part₁ (view b) l) i

  abbrev two : Paid
  two = paid_of (purses₂ (view b)) (part₂ (view b) l) i

  first-is : paid_by (row_at b i).sort (purse_by (account_at (view b) i)) (part₁by (account_at (view b) i) (l i)) tm (left_cm (purses₁ (view b)) (part₁ (view b) l) i) ≡ one
  first-is = account-pays (purses₁ (view b)) (part₁ (view b) l) i tm has

  asks-second : part₂by (account_at (view b) i) (l i) one ≡ part₂ (view b) l i
  unfolding part₂ paid₁ paid_of
  asks-second = refl

  free-is : free_by (account_at (view b) i) under ≡ (purses₂ (view b)).collateral i
  free-is = ap (λ n. only (not (client_or_cp_by (account_at (view b) i))) (free_of n (collateral (row_at b i)))) (sym need-is)

  second_is : (p : Paid) → p ≡ one
      → paid_by (row_at b i).sort (free_by (account_at (view b) i) under) (part₂by (account_at (view b) i) (l i) p) tm₂ (left_cm (purses₂ (view b)) (part₂ (view b) l) i) ≡ two
  second_is p e =
      ap (λ x. paid_by (row_at b i).sort x (part₂by (account_at (view b) i) (l i) p) tm₂ (left_cm (purses₂ (view b)) (part₂ (view b) l) i)) free-is
      ∙ ap (λ x. paid_by (row_at b i).sort ((purses₂ (view b)).collateral i) x tm₂ (left_cm (purses₂ (view b)) (part₂ (view b) l) i))
      (ap (part₂by (account_at (view b) i) (l i)) e ∙ asks-second)
      ∙ account-pays (purses₂ (view b)) (part₂ (view b) l) i tm₂ has₂

  pub row-pays : rounds_by (account_at (view b) i) (l i) under tm (left_cm (purses₁ (view b)) (part₁ (view b) l) i) tm₂ (left_cm (purses₂ (view b)) (part₂ (view b) l) i)
      ≡ both_of (own_payment (view b) l i) one two
  unfolding rounds_by
  row-pays =
      ap (both_of (own_payment_by (account_at (view b) i) (l i)) _) (second_is _ first-is) ∙ ap (λ p. both_of (own_payment_by (account_at (view b) i) (l i)) p two) first-is

  pub its-four : four_of (both_of (own_payment (view b) l i) one two) ≡ four (view b) l i
  unfolding paid_of four own_column tm_column cm_column
  its-four = ap (λ x. own_column (view b) l i ∷ tm_column (view b) l i ∷ cm_column (view b) l i ∷ x ∷ []) (sym (the_rest (view b) l i))
