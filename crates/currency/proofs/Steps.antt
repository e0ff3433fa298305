-- A turn of the two loops over a client's positions: what lies ahead of the place is a position and the rest.
use mathlib.Core.List.{List, [], ◌∷◌}
use mathlib.Core.Path.{◌≡◌, sym, ap, ◌∙◌}
use Prim.Native.Nat.{ℕ, suc, ◌+◌, ◌≤◌, ◌<◌}
use native.Mathlib.Omega.{arith}
use native.Mathlib.Numerals.{add-one}
use lib.ListN.{length, take, drop, get_or, drop_of_length-le}
use lib.Seq.{length-take-le, drop-cons, get_or-take}
use Rattle.rows.specs.Rows.{ceiling}
use Rattle.currency.specs.declared.Position.{Position}
use Rattle.currency.specs.Charges.{fault_of, first_fault, charge_of, charges}
use Rattle.currency.proofs.Faultless.{charge-most, fault-first, fault_past, none-at-fault}

-- the first n positions from place i on
abbrev pub ahead : List Position → ℕ → ℕ → List Position
ahead l n i = drop i (take n l)

module _ (l : List Position) (n i : ℕ) (long : n ≤ length l) where
  ahead_none : n ≤ i → ahead l n i ≡ []
  ahead_none h = drop_of_length-le (take n l) {i = i} (omega (arith, length-take-le n l long))

  pub fault-end : n ≤ i → first_fault (ahead l n i) ≡ 0
  unfolding first_fault
  fault-end h = ap first_fault (ahead_none h)

  pub charges-end : n ≤ i → charges (ahead l n i) ≡ 0
  unfolding charges
  charges-end h = ap charges (ahead_none h)

module _ (l : List Position) (n i : ℕ) (d : Position) (long : n ≤ length l) where
  ahead-cons : i < n → ahead l n i ≡ get_or l i d ∷ ahead l n (i + 1)
  ahead-cons h =
      drop-cons (take n l) i d (omega (arith, length-take-le n l long))
      ∙ ap (λ p. p ∷ drop (suc i) (take n l)) (get_or-take n l i d h)
      ∙ ap (λ k. get_or l i d ∷ drop k (take n l)) (sym (add-one i))

  pub fault-here : i < n → (fault_of (get_or l i d) ≡ 0 → ⊥) → first_fault (ahead l n i) ≡ fault_of (get_or l i d)
  fault-here h f = ap first_fault (ahead-cons h) ∙ fault-first (get_or l i d) (ahead l n (i + 1)) f

  pub fault-later : i < n → fault_of (get_or l i d) ≡ 0 → first_fault (ahead l n i) ≡ first_fault (ahead l n (i + 1))
  fault-later h f = ap first_fault (ahead-cons h) ∙ fault_past (get_or l i d) (ahead l n (i + 1)) f

  pub no-fault-step : i < n → first_fault (ahead l n i) ≡ 0 → (fault_of (get_or l i d) ≡ 0) × (first_fault (ahead l n (i + 1)) ≡ 0)
  no-fault-step h f = none-at-fault (get_or l i d) (ahead l n (i + 1)) (ap first_fault (sym (ahead-cons h)) ∙ f)

  -- what the position here is charged, and the rest
  pub charge-step : (x : ℕ) → x ≡ charge_of (get_or l i d) → i < n → first_fault (ahead l n i) ≡ 0
      → (x ≤ ceiling) × (first_fault (ahead l n (i + 1)) ≡ 0) × (charges (ahead l n i) ≡ x + charges (ahead l n (i + 1)))
  unfolding charges
  charge-step x e h f =
      let s = no-fault-step h f in
      (omega (arith, charge-most (get_or l i d) s.0), s.1, ap charges (ahead-cons h) ∙ ap (λ k. k + charges (ahead l n (i + 1))) (sym e))
