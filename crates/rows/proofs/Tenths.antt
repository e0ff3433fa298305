-- K2's excess and use are what is deemed and the need, in the view with ten margins and nine collaterals.
use mathlib.Core.Path.{◌≡◌, sym, ◌∙◌, ap, ap₂}
use mathlib.Core.Bool.{Bool, true}
use mathlib.Core.List.{List}
use Prim.Native.Nat.{ℕ, ◌+◌, ◌-◌, ◌*◌, ◌<◌}
use native.Mathlib.Omega.{arith}
use native.Mathlib.Decide.{ℕ_discrete}
use lib.Dec.{eqb}
use lib.ListN.{get_or}
use borrow.Author.Tests.{eqb-true, ne_eqb}
use Rattle.sums.specs.Sum.{only}
use Rattle.sums.specs.Choice.{pick}
use Rattle.sums.proofs.Sums.{sum-eq}
use Rattle.sums.proofs.Choices.{pick_no}
use Rattle.rows.specs.View.{View, is_tm, is_cp, is_client_of, members, deemed_of, own_deemed, need_tm, deemed_tm, need_cm}
use Rattle.rows.specs.Facts.{Shaped}
use Rattle.rows.specs.DeemedUnder.{DeemedUnder}
use Rattle.rows.specs.Modes.{own_excess, use_tm, excess_tm, use_cm, has_mode, use_of}
use Rattle.rows.specs.Inner.{view_as, in_tenths}
use Rattle.rows.proofs.DeemedUnder.{cm-is, tm-is}

-- a need less what is blocked of it is the need less the collateral, or 0
deemed-is : (n c : ℕ) → deemed_of n c ≡ n - c
deemed-is n c = omega arith

pub own-excess : (v : View) (i : ℕ) → own_deemed (in_tenths v) i ≡ own_excess v i
own-excess v i = deemed-is (10 * v.margin i) (9 * v.collateral i)

pub TM's-use : (v : View) (t : ℕ) → need_tm (in_tenths v) t ≡ use_tm v t
unfolding need_tm use_tm
TM's-use v t =
    ap (λ n. 10 * v.margin t + n)
    (sum-eq v.count (λ i. only (is_client_of v t i) (own_deemed (in_tenths v) i)) (λ i. only (is_client_of v t i) (own_excess v i))
    (λ i m. ap (only (is_client_of v t i)) (own-excess v i)))

pub TM's-excess : (v : View) (t : ℕ) → deemed_tm (in_tenths v) t ≡ excess_tm v t
TM's-excess v t = deemed-is (need_tm (in_tenths v) t) (9 * v.collateral t) ∙ ap (λ n. n - 9 * v.collateral t) (TM's-use v t)

pub CM's-use : (v : View) → need_cm (in_tenths v) ≡ use_cm v
unfolding need_cm use_cm
CM's-use v =
    ap (λ n. 10 * v.margin 0 + n)
    (sum-eq v.count (members (in_tenths v) (deemed_tm (in_tenths v)) (own_deemed (in_tenths v))) (members v (excess_tm v) (own_excess v))
    (λ i m. ap₂ ◌+◌ (ap (only (is_tm v i)) (TM's-excess v i)) (ap (only (is_cp v i)) (own-excess v i))))

-- so a use is a need in tenths: the CM's at place 0, a TM's at any other
pub use-CM : (v : View) → use_of v 0 ≡ need_cm (in_tenths v)
unfolding use_of pick
use-CM v = sym (CM's-use v)

pub use-TM : (v : View) (i : ℕ) → (i ≡ 0 → ⊥) → use_of v i ≡ need_tm (in_tenths v) i
unfolding use_of
use-TM v i n = pick_no (eqb i 0) (use_cm v) (use_tm v i) (ne_eqb i 0 n) ∙ sym (TM's-use v i)

-- sorts and TMs are the same, so the shape is
pub shaped_in : (tenths : Bool) {v : View} → Shaped v → Shaped (view_as tenths v)
shaped_in tenths s = record { some = s.some; top = s.top; sorts = s.sorts; tms = s.tms }

-- by the list of what is under each account in tenths
pub use-by : (v : View) → Shaped v → (under : List ℕ) → DeemedUnder (in_tenths v) under → (i : ℕ) → i < v.count → has_mode v i ≡ true
    → use_of v i ≡ 10 * v.margin i + get_or under i 0
use-by v s under h i l e = by (ℕ_discrete i 0)
  where
    by : Dec (i ≡ 0) → use_of v i ≡ 10 * v.margin i + get_or under i 0
    by (yes q) = rw q (use-CM v ∙ cm-is (in_tenths v) (shaped_in true s) under h)
    by (no q) = use-TM v i q ∙ tm-is (in_tenths v) (shaped_in true s) under h i l (eqb-true (v.sort i) 1 (rw (ne_eqb i 0 q) at e))
