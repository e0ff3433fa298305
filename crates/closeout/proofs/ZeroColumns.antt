-- Document 01, 'Close-out': which of an account's four amounts are 0 by its sort.
use mathlib.Core.Path.{◌≡◌}
use mathlib.Core.Logic.{◌⊎◌, ⊎_elim}
use Prim.Native.Nat.{ℕ}
use native.Mathlib.Omega.{arith}
use Rattle.rows.specs.View.{View}
use Rattle.closeout.specs.Round.{from_tm, asked_of_cm, from_cm}
use Rattle.closeout.proofs.Payments.{from_tm-other}

module _ (v : View) (l : ℕ → ℕ) where
  -- "The TM column of a TM, a CP and the CM is 0;"
  pub TM-column-is-0 : (i : ℕ) → (v.sort i ≡ 1) ⊎ ((v.sort i ≡ 3) ⊎ (v.sort i ≡ 0)) → from_tm v l i ≡ 0
  TM-column-is-0 i =
      ⊎_elim (λ e. from_tm-other v l i (rw e)) (⊎_elim (λ e. from_tm-other v l i (rw e)) (λ e. from_tm-other v l i (rw e)))

  -- "the CM's own payment stands in its first column and its third is 0.": its collateral is gone where its own loss isn't paid
  pub CM-third-is-0 : from_cm v l 0 ≡ 0
  unfolding from_cm asked_of_cm
  CM-third-is-0 = omega arith
