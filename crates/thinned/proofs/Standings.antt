-- Every standing, by number, is the same at a book and at the one without the rows that are not kept.
use mathlib.Core.Bool.{Bool, true, false}
use mathlib.Core.Path.{◌≡◌, refl, sym, ap, ◌∙◌}
use Prim.Native.Nat.{ℕ, ◌<◌}
use Rattle.rows.specs.declared.Book.{Book}
use Rattle.rows.specs.Rows.{place_of, mode_at, view, is_live}
use Rattle.book.specs.Facts.{Sound}
use Rattle.book.specs.Asked.{figures_of, no_figures, standing_of}
use Rattle.book.proofs.SoundTest.{sound←}
use Rattle.book.proofs.Settled.{sound-rows}
use Rattle.book.proofs.StandingRefusals.{dead-refused, live-answered}
use Rattle.gaps.specs.Gaps.{place_after}
use Rattle.gaps.proofs.Places.{place_none}
use Rattle.thinned.proofs.Dropped.{Dropped, need-kept, need_cm-kept}
use Rattle.thinned.proofs.Thinned.{Thinned, dropped, same_live, same-top}
use Rattle.thinned.proofs.Verdicts.{Meant, kept, none}
use Rattle.thinned.proofs.Numbers.{same-meaning}

module _ (b : Book) (s : Sound b) (n : ℕ) where
  standing-dead : is_live b (place_of b n) ≡ false → standing_of b n ≡ no_figures 7
  unfolding standing_of
  standing-dead e = rw (dead-refused b n (sound← b s) e)

  standing-live : is_live b (place_of b n) ≡ true → standing_of b n ≡ figures_of (view b) (mode_at b (place_of b n)) (place_of b n)
  unfolding standing_of
  standing-live e = rw (live-answered b n (sound← b s) e)

module _ {keep : ℕ → Bool} {b c : Book} (s : Sound b) (t : Sound c) (d : Thinned keep b c) (n : ℕ) where
  dr : Dropped keep (view b) (view c)
  dr = dropped (sound-rows b s) d

  -- "collateral, need, blocked, deemed, free", the mode and the shortfall of a kept row
  same-figures : (i : ℕ) → i < b.count → keep i ≡ true
      → figures_of (view c) (mode_at c (place_after keep i)) (place_after keep i) ≡ figures_of (view b) (mode_at b i) i
  same-figures i l k =
      rw (
        dr.collateral i l k,
        need-kept keep (view b) (view c) dr i l k s.shaped.some d.top,
        d.modes i l k,
        same-top (sound-rows b s) d i l k,
        need_cm-kept keep (view b) (view c) dr s.shaped.some d.top,
        ap (view c).collateral (sym (place_none keep)) ∙ dr.collateral 0 s.shaped.some d.top,
      )

  -- THE LAW
  pub same-standing : standing_of c n ≡ standing_of b n
  same-standing = by (same-meaning s t d n) (is_live b (place_of b n)) refl
    where
      by : Meant keep b c (place_of b n) (place_of c n) → (x : Bool) → is_live b (place_of b n) ≡ x → standing_of c n ≡ standing_of b n
      by (kept l k e) true z =
          standing-live c t n (ap (is_live c) e ∙ same_live (sound-rows b s) d (place_of b n) l k ∙ z)
          ∙ rw e (same-figures (place_of b n) l k) ∙ sym (standing-live b s n z)
      by (kept l k e) false z =
          standing-dead c t n (ap (is_live c) e ∙ same_live (sound-rows b s) d (place_of b n) l k ∙ z) ∙ sym (standing-dead b s n z)
      by (none x y) v z = standing-dead c t n y ∙ sym (standing-dead b s n x)
