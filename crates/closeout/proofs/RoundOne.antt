-- K1's round one pays what closeout's columns say of the losses within the margins; so a covered book pays all of it, any other
-- all but what the CM lacks, and nobody pays more than is blocked.
use mathlib.Core.Path.{◌≡◌, refl, ◌∙◌, ap}
use mathlib.Core.Bool.{Bool, true, false, not}
use Prim.Native.Nat.{ℕ, ◌+◌, ◌-◌, ◌≤◌, ◌<◌, min}
use native.Mathlib.Omega.{arith}
use borrow.Author.Tests.{eqb-true}
use Rattle.sums.specs.Sum.{sum, only}
use Rattle.sums.proofs.Sums.{sum-eq, sum-le, sum-zero, sum-term, only-le}
use Rattle.rows.specs.View.{View, is_client, is_client_of, of_clients, own_deemed, need_tm, need_cm, blocked}
use Rattle.rows.specs.Facts.{Shaped}
use Rattle.rows.proofs.Cover.{Covered}
use Rattle.rows.proofs.BySort.{client-sort, need-CM, need-TM}
use Rattle.closeout.specs.Round.{own, short, left_tm, from_tm, asked_of_cm, left_cm, from_cm, unpaid}
use Rattle.closeout.specs.Bound.{beyond}
use Rattle.closeout.proofs.Payments.{amounts-add-up, from_tm-client}
use Rattle.closeout.proofs.Limits.{TM-pays, CM-pays}
use Rattle.closeout.proofs.Fund.{asked-le, fund}
use Rattle.closeout.specs.Columns.{is_client_or_cp, with_purses, purses₁, part₁, paid₁}

-- a loss a of margin m and collateral c: what is left within the margin once own collateral has paid what it can of the loss
own-short : (a m c : ℕ) → min a m - min a c ≡ min a m - min (min a m) c
own-short a m c = omega arith

none-taken : (x : ℕ) → x - min x 0 ≡ x
none-taken x = omega arith

none-paid : (x c : ℕ) → (x - 0) - min (x - 0) c ≡ x - min x c
none-paid x c = omega arith

-- x and y within a need and within c
both-within : (x y m d c : ℕ) → x ≤ m → y ≤ d → x + y ≤ c → x + y ≤ min (m + d) c
both-within x y m d c p q r = omega arith

in-need : (x n c : ℕ) → x ≤ n → x ≤ c → x ≤ min n c
in-need x n c p q = omega arith

less_two : {a b c a' b' c' : ℕ} → a ≡ a' → b ≡ b' → c ≡ c' → a - b - c ≡ a' - b' - c'
less_two p q r = cc

min-two : {a b a' b' : ℕ} → a ≡ a' → b ≡ b' → min a b ≡ min a' b'
min-two p q = cc

less_one : {a b a' b' : ℕ} → a ≡ a' → b ≡ b' → a - b ≡ a' - b'
less_one p q = cc

lesser-most : (f x y d : ℕ) → f ≡ min x y → x ≤ d → f ≤ d
lesser-most f x y d e h = omega arith

lesser-first : (f x y : ℕ) → f ≡ min x y → f ≤ x
lesser-first f x y e = omega arith

short-most : (a m c : ℕ) → min a m - min (min a m) c ≤ m - min m c
short-most a m c = omega arith

-- a view with other purses has the same accounts
pub same_shape : (v : View) (f : ℕ → ℕ) → Shaped v → Shaped (with_purses v f)
same_shape v f s = record { some = s.some; top = s.top; sorts = s.sorts; tms = s.tms }

module _ (v : View) (l : ℕ → ℕ) where
  -- the part of a loss within the margin
  abbrev pub within : ℕ → ℕ
  within i = min (l i) (v.margin i)

  abbrev v₁ : View
  v₁ = purses₁ v

  abbrev l₁ : ℕ → ℕ
  l₁ = part₁ v l

  -- what own collateral can't pay of it is the same, whether own collateral paid before the round or pays in it
  same-short : (i : ℕ) → short v₁ l₁ i ≡ short v within i
  same-short i = by (is_client_or_cp v i)
    where
      by : (t : Bool) → (within i - only t (min (l i) (v.collateral i))) - min (within i - only t (min (l i) (v.collateral i))) (only (not t) (v.collateral i))
          ≡ within i - min (within i) (v.collateral i)
      by true = none-taken (within i - min (l i) (v.collateral i)) ∙ own-short (l i) (v.margin i) (v.collateral i)
      by false = none-paid (within i) (v.collateral i)

  -- the round's own column: of a TM and the CM; clients and CPs have paid before it
  own-member : (i : ℕ) → is_client_or_cp v i ≡ false → own v₁ l₁ i ≡ own v within i
  own-member i e = rw e (omega arith)

  same_left : (t i : ℕ) → is_client_or_cp v t ≡ false → left_tm v₁ l₁ t i ≡ left_tm v within t i
  same_left t i e =
      less_two (ap (λ x. only (not x) (v.collateral t)) e) (own-member t e)
      (sum-eq i (λ j. only (is_client_of v t j) (short v₁ l₁ j)) (λ j. only (is_client_of v t j) (short v within j))
      (λ j m. ap (only (is_client_of v t j)) (same-short j)))

module _ (v : View) (s : Shaped v) (l : ℕ → ℕ) where
  tm-member : (i : ℕ) → v.sort i ≡ 1 → is_client_or_cp v i ≡ false
  tm-member i e = rw e

  cm-member : is_client_or_cp v 0 ≡ false
  cm-member = rw s.top

  same-from_tm : (i : ℕ) → i < v.count → from_tm (purses₁ v) (part₁ v l) i ≡ from_tm v (within v l) i
  unfolding from_tm
  same-from_tm i m = by (is_client v i) refl
    where
      by : (t : Bool) → is_client v i ≡ t
          → only t (min (short (purses₁ v) (part₁ v l) i) (left_tm (purses₁ v) (part₁ v l) (v.tm i) i))
          ≡ only t (min (short v (within v l) i) (left_tm v (within v l) (v.tm i) i))
      by true e =
          let h = s.tms i m (eqb-true (v.sort i) 2 e) in
          min-two (same-short v l i) (same_left v l (v.tm i) i (tm-member (v.tm i) h.1))
      by false e = refl

  same_asked : (i : ℕ) → i < v.count → asked_of_cm (purses₁ v) (part₁ v l) i ≡ asked_of_cm v (within v l) i
  unfolding asked_of_cm
  same_asked i m = less_one (same-short v l i) (same-from_tm i m)

  same-left_cm : (i : ℕ) → i ≤ v.count → left_cm (purses₁ v) (part₁ v l) i ≡ left_cm v (within v l) i
  same-left_cm i m =
      less_two (ap (λ x. only (not x) (v.collateral 0)) cm-member) (own-member v l 0 cm-member)
      (sum-eq i (asked_of_cm (purses₁ v) (part₁ v l)) (asked_of_cm v (within v l)) (λ j d. same_asked j (omega arith)))

  same-from_cm : (i : ℕ) → i < v.count → from_cm (purses₁ v) (part₁ v l) i ≡ from_cm v (within v l) i
  unfolding from_cm
  same-from_cm i m = min-two (same_asked i m) (same-left_cm i (omega arith))

  same-uncovered : (i : ℕ) → i < v.count → unpaid (purses₁ v) (part₁ v l) i ≡ unpaid v (within v l) i
  unfolding unpaid
  same-uncovered i m = less_one (same_asked i m) (same-left_cm i (omega arith))

  none-beyond : sum v.count (beyond v (within v l)) ≡ 0
  none-beyond = sum-zero v.count (beyond v (within v l)) (λ i m. omega arith)

  -- round one leaves open at most what the CM lacks
  pub round-one-open : sum v.count (unpaid (purses₁ v) (part₁ v l)) ≤ need_cm v - v.collateral 0
  round-one-open =
      rw (sum-eq v.count (unpaid (purses₁ v) (part₁ v l)) (unpaid v (within v l)) same-uncovered)
      (omega (arith, fund v s (within v l), none-beyond))

  -- a covered book leaves nothing of round one unpaid
  nothing-open : Covered v → (i : ℕ) → i < v.count → unpaid (purses₁ v) (part₁ v l) i ≡ 0
  nothing-open c i m = omega (arith, sum-term v.count (unpaid (purses₁ v) (part₁ v l)) i m, round-one-open)

  -- so it pays all that it is asked
  pub pays-all : Covered v → (i : ℕ) → i < v.count → paid₁ v l i ≡ part₁ v l i
  unfolding paid₁
  pays-all c i m = omega (arith, amounts-add-up (purses₁ v) (part₁ v l) i, nothing-open c i m)

  -- a TM pays no more than is blocked of its collateral
  pub TM-blocked : (t : ℕ) → v.sort t ≡ 1
      → own (purses₁ v) (part₁ v l) t + of_clients v t (from_tm (purses₁ v) (part₁ v l)) ≤ blocked v t
  unfolding need_tm
  TM-blocked t e =
      rw (need-TM v t e, own-member v l t (tm-member t e), clients-same)
      (both-within (own v (within v l) t) (of_clients v t (from_tm v (within v l))) (v.margin t) (of_clients v t (own_deemed v)) (v.collateral t)
      (omega arith) clients-le (TM-pays v (within v l) t))
    where
      at_most : (i : ℕ) → v.sort i ≡ 2 → from_tm v (within v l) i ≤ own_deemed v i
      at_most i q =
          lesser-most (from_tm v (within v l) i) (short v (within v l) i) (left_tm v (within v l) (v.tm i) i) (own_deemed v i) (from_tm-client v (within v l) i q)
          (short-most (l i) (v.margin i) (v.collateral i))

      clients-same : of_clients v t (from_tm (purses₁ v) (part₁ v l)) ≡ of_clients v t (from_tm v (within v l))
      clients-same =
          sum-eq v.count (λ i. only (is_client_of v t i) (from_tm (purses₁ v) (part₁ v l) i)) (λ i. only (is_client_of v t i) (from_tm v (within v l) i))
          (λ i m. ap (only (is_client_of v t i)) (same-from_tm i m))

      clients-le : of_clients v t (from_tm v (within v l)) ≤ of_clients v t (own_deemed v)
      clients-le =
          sum-le v.count (λ i. only (is_client_of v t i) (from_tm v (within v l) i)) (λ i. only (is_client_of v t i) (own_deemed v i))
          (λ i m. only-le (is_client_of v t i) (λ q. at_most i (client-sort v t i q)))

  from_cm-le : (i : ℕ) → from_cm v (within v l) i ≤ asked_of_cm v (within v l) i
  unfolding from_cm
  from_cm-le i = lesser-first _ (asked_of_cm v (within v l) i) (left_cm v (within v l) i) refl

  -- nor does the CM
  pub CM-blocked : own (purses₁ v) (part₁ v l) 0 + sum v.count (from_cm (purses₁ v) (part₁ v l)) ≤ blocked v 0
  CM-blocked =
      rw (need-CM v 0 s.top, own-member v l 0 cm-member, all_same)
      (in-need (own v (within v l) 0 + sum v.count (from_cm v (within v l))) (need_cm v) (v.collateral 0)
      (omega (arith, asked-le v s (within v l), none-beyond, all-le)) (CM-pays v (within v l)))
    where
      all_same : sum v.count (from_cm (purses₁ v) (part₁ v l)) ≡ sum v.count (from_cm v (within v l))
      all_same = sum-eq v.count (from_cm (purses₁ v) (part₁ v l)) (from_cm v (within v l)) same-from_cm

      all-le : sum v.count (from_cm v (within v l)) ≤ sum v.count (asked_of_cm v (within v l))
      all-le = sum-le v.count (from_cm v (within v l)) (asked_of_cm v (within v l)) (λ i m. from_cm-le i)
