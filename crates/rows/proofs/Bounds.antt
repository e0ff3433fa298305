-- How large needs get where no margin passes a cap: nothing under an account is more than 256 caps.
use mathlib.Core.Path.{◌≡◌, refl}
use mathlib.Core.Bool.{Bool, true, false, ◌&&◌}
use mathlib.Core.List.{List}
use mathlib.Core.Logic.{inl, inr}
use Prim.Native.Nat.{ℕ, ◌+◌, ◌*◌, ◌≤◌, ◌<◌}
use native.Mathlib.Omega.{arith}
use native.Mathlib.Decide.{dec_lt, ℕ_discrete}
use native.Mathlib.Nat.{mul-le-mul_right}
use lib.Dec.{eqb}
use lib.ListN.{get_or}
use borrow.Author.Tests.{ne_eqb}
use Rattle.sums.specs.Sum.{sum, only}
use Rattle.sums.proofs.Sums.{sum-most, sum-le, sum-add, sum-zero, sum-swap, sum-once, only-most}
use Rattle.rows.specs.declared.Rule.{Rule}
use Rattle.rows.specs.declared.Book.{Book}
use Rattle.rows.specs.View.{View, is_tm, is_client, is_cp, is_client_of, own_deemed, deemed_tm, need_tm, members}
use Rattle.rows.specs.Rows.{ceiling, view_by}
use Rattle.rows.specs.Facts.{Shaped}
use Rattle.rows.specs.DeemedUnder.{DeemedUnder, account_at}
use Rattle.rows.specs.Inner.{Ranged, clients_below, members_below, view_as}
use Rattle.rows.proofs.BySort.{Sort, cm, tm, client, cp, sort-of}
use Rattle.rows.proofs.NeedSums.{member-most, need-cm-sum, need-tm-sum}
use Rattle.rows.proofs.DeemedUnder.{cm-is, tm-is, none-under}

-- no margin of a view passes a cap, and it has at most 256 accounts
pub record Bounded (v : View) (cap : ℕ) : Type 0 where
  pub most : v.count ≤ 256
  pub margins : (i : ℕ) → i < v.count → v.margin i ≤ cap

module _ (v : View) (cap : ℕ) (h : Bounded v cap) where
  pub clients-most : (t n : ℕ) → n ≤ v.count → clients_below v t n ≤ n * cap
  unfolding clients_below
  clients-most t n l =
      sum-most n cap (λ i. only (is_client_of v t i) (own_deemed v i))
      (λ i m. omega (arith, only-most (is_client_of v t i) (own_deemed v i), h.margins i (omega arith)))

  -- all clients of one TM, at most 256 caps
  pub clients-top : (t : ℕ) → clients_below v t v.count ≤ 256 * cap
  clients-top t = omega (arith, clients-most t v.count (omega arith), mul-le-mul_right cap h.most)

  pub members-most : (n : ℕ) → n ≤ v.count → members_below v n ≤ n * (258 * cap)
  unfolding members_below clients_below need_tm
  members-most n l =
      sum-most n (258 * cap) (members v (deemed_tm v) (own_deemed v))
      (λ i m. omega (arith, member-most (account_at v i) (clients_below v i v.count), h.margins i (omega arith), clients-top i))

  -- each client counts under one TM, so all that is under the CM is no more than all margins: at most 256 caps again
  one-TM : (i : ℕ) → sum v.count (λ t. only (is_client_of v t i) (own_deemed v i)) ≤ only (is_client v i) (v.margin i)
  one-TM i = by (is_client v i)
    where
      by : (c : Bool) → sum v.count (λ t. only (c && eqb (v.tm i) t) (own_deemed v i)) ≤ only c (v.margin i)
      by true = omega (arith, sum-once v.count (v.tm i) (own_deemed v i))
      by false = omega (arith, sum-zero v.count (λ t. 0) (λ t m. refl))

  all-clients : sum v.count (λ t. clients_below v t v.count) ≤ sum v.count (λ i. only (is_client v i) (v.margin i))
  unfolding clients_below
  all-clients =
      omega (
        arith,
        sum-swap v.count v.count (λ t i. only (is_client_of v t i) (own_deemed v i)),
        sum-le v.count (λ i. sum v.count (λ t. only (is_client_of v t i) (own_deemed v i))) (λ i. only (is_client v i) (v.margin i)) (λ i m. one-TM i),
      )

  -- a member's own part
  own : ℕ → ℕ
  own i = only (is_tm v i) (v.margin i) + only (is_cp v i) (v.margin i)

  one-sort : (s x : ℕ) → (only (eqb s 1) x + only (eqb s 3) x) + only (eqb s 2) x ≤ x
  one-sort s x = by (ℕ_discrete s 1) (ℕ_discrete s 2)
    where
      by : Dec (s ≡ 1) → Dec (s ≡ 2) → (only (eqb s 1) x + only (eqb s 3) x) + only (eqb s 2) x ≤ x
      by (yes e) d = rw e (omega arith)
      by (no e) (yes d) = rw d (omega arith)
      by (no e) (no d) = rw (ne_eqb s 1 e, ne_eqb s 2 d) (omega (arith, only-most (eqb s 3) x))

  member-part : (i : ℕ) → members v (deemed_tm v) (own_deemed v) i ≤ own i + clients_below v i v.count
  unfolding clients_below need_tm own
  member-part i = by (is_tm v i) (is_cp v i)
    where
      by : (t p : Bool) → only t (deemed_tm v i) + only p (own_deemed v i) ≤ (only t (v.margin i) + only p (v.margin i)) + clients_below v i v.count
      by true true = omega arith
      by true false = omega arith
      by false true = omega arith
      by false false = omega arith

  pub members-top : members_below v v.count ≤ 256 * cap
  unfolding members_below own
  members-top =
      omega (
        arith,
        sum-le v.count (members v (deemed_tm v) (own_deemed v)) (λ i. own i + clients_below v i v.count) (λ i m. member-part i),
        sum-add v.count own (λ i. clients_below v i v.count),
        all-clients,
        sum-add v.count own (λ i. only (is_client v i) (v.margin i)),
        sum-most v.count cap (λ i. own i + only (is_client v i) (v.margin i)) (λ i m. omega (arith, one-sort (v.sort i) (v.margin i), h.margins i m)),
        mul-le-mul_right cap h.most,
      )

  module _ (s : Shaped v) (under : List ℕ) (u : DeemedUnder v under) where
    pub under-cap : (i : ℕ) → get_or under i 0 ≤ 256 * cap
    under-cap i = by (dec_lt i v.count)
      where
        of : i < v.count → Sort v i → get_or under i 0 ≤ 256 * cap
        of l (cm e c) = rw e (omega (arith, cm-is v s under u, need-cm-sum v, members-top))
        of l (tm p c) = omega (arith, tm-is v s under u i l c, need-tm-sum v i, clients-top i)
        of l (client p c) = omega (arith, none-under v s under u i l (inl c))
        of l (cp p c) = omega (arith, none-under v s under u i l (inr c))

        by : Dec (i < v.count) → get_or under i 0 ≤ 256 * cap
        by (yes l) = of l (sort-of v s i l)
        by (no l) = omega (arith, u.beyond i (omega arith))

-- a book's margins are at most the ceiling, and in tenths at most ten
pub ranged-bounded : (rule : Rule) (b : Book) → Ranged b → Bounded (view_by rule b) ceiling
ranged-bounded rule b h = record { most = h.most; margins = λ i l. (h.ranges i l).margin }

pub bounded-in : (tenths : Bool) (rule : Rule) (b : Book) → Ranged b → Bounded (view_as tenths (view_by rule b)) 100_000_000_000_000
bounded-in true rule b h = record { most = h.most; margins = λ i l. omega (arith, (h.ranges i l).margin) }
bounded-in false rule b h = record { most = h.most; margins = λ i l. omega (arith, (h.ranges i l).margin) }
