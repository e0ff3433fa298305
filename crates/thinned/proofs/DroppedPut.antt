-- A kept row put anew in both books, with the same amounts: what was dropped stays dropped. With `need_cm-kept` this is 13's test on both sides.
use mathlib.Core.Bool.{Bool, true, false}
use mathlib.Core.Path.{◌≡◌, sym, ap, ◌∙◌}
use Prim.Native.Nat.{ℕ, ◌<◌}
use native.Mathlib.Omega.{arith}
use native.Mathlib.Decide.{ℕ_discrete}
use Rattle.sums.proofs.Choices.{test-clash}
use Rattle.rows.specs.View.{View}
use Rattle.book.proofs.Differences.{RowChanged}
use Rattle.gaps.specs.Gaps.{place_after}
use Rattle.gaps.proofs.Places.{place-apart}
use Rattle.thinned.proofs.Dropped.{Dropped}

module _ (keep : ℕ → Bool) (v w v' w' : View) (d : Dropped keep v w) (k : ℕ) (kept : keep k ≡ true)
    (o : RowChanged v v' k) (p : RowChanged w w' (place_after keep k))
    (m : w'.margin (place_after keep k) ≡ v'.margin k) (c : w'.collateral (place_after keep k) ≡ v'.collateral k) where
  abbrev at : ℕ → ℕ
  at = place_after keep

  apart : (i : ℕ) → keep i ≡ true → (i ≡ k → ⊥) → at i ≡ at k → ⊥
  apart i e ne = place-apart keep i k e kept ne

  pub dropped-put : Dropped keep v' w'
  dropped-put = record {
    count = p.count ∙ d.count ∙ ap at (sym o.count);
    sort = λ i l e. p.sort (at i) ∙ d.sort i (was l) e ∙ sym (o.sort i);
    margin = λ i l e. margins i (was l) e (ℕ_discrete i k);
    collateral = λ i l e. collaterals i (was l) e (ℕ_discrete i k);
    tm = λ i l e s. p.tm (at i) ∙ d.tm i (was l) e (sym (o.sort i) ∙ s) ∙ ap at (sym (o.tm i));
    tm-kept = λ i l e s. rw (o.tm i) (d.tm-kept i (was l) e (sym (o.sort i) ∙ s));
    gone = λ i l e. o.margin i (λ q. test-clash kept (sym (ap keep q) ∙ e)) ∙ d.gone i (was l) e;
    gone-clients = λ i l s e. lost i (was l) (sym (o.sort i) ∙ s) (rw (o.tm i) at e);
  }
    where
      was : {i : ℕ} → i < v'.count → i < v.count
      was l = omega (arith, o.count)

      margins : (i : ℕ) → i < v.count → keep i ≡ true → Dec (i ≡ k) → w'.margin (at i) ≡ v'.margin i
      margins i l e (yes q) = rw q m
      margins i l e (no q) = p.margin (at i) (apart i e q) ∙ d.margin i l e ∙ sym (o.margin i q)

      collaterals : (i : ℕ) → i < v.count → keep i ≡ true → Dec (i ≡ k) → w'.collateral (at i) ≡ v'.collateral i
      collaterals i l e (yes q) = rw q c
      collaterals i l e (no q) = p.collateral (at i) (apart i e q) ∙ d.collateral i l e ∙ sym (o.collateral i q)

      -- row k is kept, and so is its TM: it is no client of a dropped one
      lost : (i : ℕ) → i < v.count → v.sort i ≡ 2 → keep (v.tm i) ≡ false → v'.margin i ≡ 0
      lost i l s e = o.margin i (λ q. test-clash (d.tm-kept i l (ap keep q ∙ kept) s) e) ∙ d.gone-clients i l s e
