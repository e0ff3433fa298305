-- K2's look: what it leaves, and that a second look at the same figures changes nothing.
use mathlib.Core.Path.{◌≡◌, refl, sym, ◌∙◌, ap}
use mathlib.Core.Bool.{Bool, true, false, ◌&&◌, and-false}
use mathlib.Core.List.{List}
use Prim.Native.Nat.{ℕ, ◌+◌, ◌*◌, ◌≤◌, ◌<◌}
use native.Mathlib.Omega.{arith}
use native.Mathlib.Decide.{dec_lt}
use lib.ListN.{length, get_or, set, replicate, length-set}
use lib.Seq.{get_or-set_other}
use borrow.Author.Tests.{ne_eqb}
use Rattle.sums.specs.Choice.{pick}
use Rattle.sums.proofs.Choices.{and_same}
use Rattle.sums.proofs.Lists.{length-list_to, at-list_to, list_to-eq, list-is, filled-step, get_d-same}
use Rattle.rows.specs.View.{View, is_tm}
use Rattle.rows.specs.Facts.{Shaped, NoneBeyond}
use Rattle.rows.specs.DeemedUnder.{DeemedUnder}
use Rattle.rows.specs.Inner.{in_tenths}
use Rattle.rows.specs.Modes.{has_mode, use_of, turns_on, turns_off, mode_after, look_at, looked}
use Rattle.rows.proofs.Tenths.{use-by}

-- a second look at one account
pub look-again : (u c : ℕ) (m : Bool) → mode_after u c (mode_after u c m) ≡ mode_after u c m
unfolding mode_after pick
look-again u c m = by (turns_on u c) (turns_off u c)
  where
    by : (on off : Bool) → pick on true (pick off false (pick on true (pick off false m))) ≡ pick on true (pick off false m)
    by true off = refl
    by false true = refl
    by false false = refl

-- "off when use is 0"
pub unused-off : (c : ℕ) (m : Bool) → mode_after 0 c m ≡ false
unfolding mode_after pick
unused-off c m = refl

module _ (v : View) (modes : List Bool) where
  pub looked-size : length (looked v modes) ≡ 256
  unfolding looked
  looked-size = length-list_to (look_at v modes) 256

  pub looked-at : (i : ℕ) → i < 256 → get_or (looked v modes) i false ≡ look_at v modes i
  unfolding looked
  looked-at i l = at-list_to (look_at v modes) 256 i false l

  -- no mode, no use: off
  pub no_mode : (i : ℕ) → (i ≡ 0 → ⊥) → is_tm v i ≡ false → look_at v modes i ≡ false
  no_mode i n e = rw (ne_eqb i 0 n, e)

  pub no-use : (i : ℕ) → (has_mode v i ≡ true → use_of v i ≡ 0) → look_at v modes i ≡ false
  no-use i h =
      and_same (has_mode v i) (λ e. ap (λ u. mode_after u (v.collateral i) (get_or modes i false)) (h e) ∙ unused-off (v.collateral i) (get_or modes i false))
      ∙ and-false (has_mode v i)

-- looks at figures that are the same place by place
pub look-same : (v w : View) (modes : List Bool) → ((i : ℕ) → i < 256 → look_at w modes i ≡ look_at v modes i) → looked w modes ≡ looked v modes
unfolding looked
look-same v w modes h = list_to-eq (look_at w modes) (look_at v modes) 256 h

pub look_twice : (v : View) (modes : List Bool) → looked v (looked v modes) ≡ looked v modes
unfolding looked
look_twice v modes = list_to-eq (look_at v (looked v modes)) (look_at v modes) 256 again
  where
    again : (i : ℕ) → i < 256 → look_at v (looked v modes) i ≡ look_at v modes i
    again i l =
        and_same (has_mode v i)
        (λ e. ap (mode_after (use_of v i) (v.collateral i)) (looked-at v modes i l ∙ ap (λ t. t && mode_after (use_of v i) (v.collateral i) (get_or modes i false)) e)
        ∙ look-again (use_of v i) (v.collateral i) (get_or modes i false))

-- one account's look, by the list of what is under each account in tenths
pub look-by : (v : View) → Shaped v → (under : List ℕ) → DeemedUnder (in_tenths v) under → (modes : List Bool) (i : ℕ) → i < v.count
    → (has_mode v i && mode_after (10 * v.margin i + get_or under i 0) (v.collateral i) (get_or modes i false)) ≡ look_at v modes i
look-by v s under h modes i l =
    and_same (has_mode v i) (λ e. ap (λ u. mode_after u (v.collateral i) (get_or modes i false)) (sym (use-by v s under h i l e)))

-- a pass in which the accounts below i are looked at, and no other place is on
pub record Passed (v : View) (modes after : List Bool) (i : ℕ) : Type 0 where
  pub size : length after ≡ 256
  pub done : (j : ℕ) → j < i → get_or after j false ≡ look_at v modes j
  pub left : (j : ℕ) → i ≤ j → get_or after j false ≡ false

module _ (v : View) (modes : List Bool) where
  pub pass-start : Passed v modes (replicate 256 false) 0
  pass-start = record { size = refl; done = λ j l. absurd (omega arith); left = λ j l. get_d-same 256 j false }

  pub pass_step : (after : List Bool) (i : ℕ) (x : Bool) → i < 256 → Passed v modes after i → x ≡ look_at v modes i → Passed v modes (set after i x) (i + 1)
  pass_step after i x l h e = record {
    size = length-set after i x ∙ h.size;
    done = filled-step (look_at v modes) after false i x (omega (arith, h.size)) h.done e;
    left = λ j m. get_or-set_other after i j x false (λ q. omega arith) ∙ h.left j (omega arith);
  }

  -- after the last account every place is as a look leaves it
  pub pass-end : (after : List Bool) → 0 < v.count → NoneBeyond v → Passed v modes after v.count → after ≡ looked v modes
  unfolding looked
  pass-end after some none h = sym (list-is (look_at v modes) 256 false after h.size (λ j l. by j (dec_lt j v.count)))
    where
      by : (j : ℕ) → Dec (j < v.count) → get_or after j false ≡ look_at v modes j
      by j (yes l) = h.done j l
      by j (no l) = h.left j (omega arith) ∙ sym (no_mode v modes j (λ e. omega arith) (none j (omega arith)))
