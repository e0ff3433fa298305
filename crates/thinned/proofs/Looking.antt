-- After a look, and with needs worked out afresh, what was thinned stays thinned.
use mathlib.Core.Bool.{Bool, true, ◌&&◌, ◌||◌}
use mathlib.Core.Path.{◌≡◌, sym, ap, ◌∙◌}
use Prim.Native.Nat.{ℕ, ◌<◌}
use native.Mathlib.Omega.{arith}
use native.Mathlib.Decide.{ℕ_discrete}
use lib.Dec.{eqb}
use Rattle.rows.specs.declared.Book.{Book}
use Rattle.rows.specs.Rows.{row_at, mode_at, collateral, view}
use Rattle.rows.specs.Modes.{use_of, mode_after, look_at, looked}
use Rattle.rows.specs.KeptNeeds.{needs_afresh, settled}
use Rattle.rows.specs.Inner.{in_tenths}
use Rattle.rows.proofs.Tenths.{use-CM, use-TM}
use Rattle.rows.proofs.Looks.{looked-at}
use Rattle.book.specs.Facts.{SoundRows}
use Rattle.gaps.specs.Gaps.{place_after}
use Rattle.gaps.proofs.Places.{place_none, place-most, place-apart}
use Rattle.thinned.proofs.Dropped.{Dropped, dropped-in, need_tm-kept, need_cm-kept}
use Rattle.thinned.proofs.Thinned.{Thinned, dropped, same-top}
use Rattle.thinned.proofs.Putting.{thinned-by}

module _ {keep : ℕ → Bool} {b c : Book} (d : Thinned keep b c) (s : SoundRows b) where
  abbrev at : ℕ → ℕ
  at = place_after keep

  use_kept : (i : ℕ) → i < b.count → keep i ≡ true → use_of (view c) (at i) ≡ use_of (view b) i
  use_kept i l k = by (ℕ_discrete i 0)
    where
      tenths : Dropped keep (in_tenths (view b)) (in_tenths (view c))
      tenths = dropped-in true (dropped s d)

      by : Dec (i ≡ 0) → use_of (view c) (at i) ≡ use_of (view b) i
      by (yes e) =
          rw e
          (ap (use_of (view c)) (place_none keep) ∙ use-CM (view c)
          ∙ need_cm-kept keep (in_tenths (view b)) (in_tenths (view c)) tenths s.shaped.some d.top ∙ sym (use-CM (view b)))
      by (no e) =
          use-TM (view c) (at i) (λ q. place-apart keep i 0 k d.top e (q ∙ sym (place_none keep)))
          ∙ need_tm-kept keep (in_tenths (view b)) (in_tenths (view c)) tenths i l k ∙ sym (use-TM (view b) i e)

  look-kept : (i : ℕ) → i < b.count → keep i ≡ true → look_at (view c) c.modes (at i) ≡ look_at (view b) b.modes i
  look-kept i l k =
      ap (λ t. (t || eqb (row_at c (at i)).sort 1) && mode_after (use_of (view c) (at i)) (collateral (row_at c (at i))) (mode_at c (at i))) (same-top s d i l k)
      ∙ ap (λ r. (eqb i 0 || eqb r.sort 1) && mode_after (use_of (view c) (at i)) (collateral r) (mode_at c (at i))) (d.rows i l k)
      ∙ ap (λ u. (eqb i 0 || eqb (row_at b i).sort 1) && mode_after u (collateral (row_at b i)) (mode_at c (at i))) (use_kept i l k)
      ∙ ap (λ m. (eqb i 0 || eqb (row_at b i).sort 1) && mode_after (use_of (view b) i) (collateral (row_at b i)) m) (d.modes i l k)

  pub thinned-settled : Thinned keep (settled b) (settled c)
  thinned-settled =
      thinned-by d (looked (view b) b.modes) (looked (view c) c.modes) (needs_afresh (view b)) (needs_afresh (view c))
      (λ i l k.
      looked-at (view c) c.modes (at i) (omega (arith, s.most, place-most keep i)) ∙ look-kept i l k
      ∙ sym (looked-at (view b) b.modes i (omega (arith, s.most))))
