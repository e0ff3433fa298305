-- What asking for a standing gives and leaves, case by case.
use mathlib.Core.Bool.{Bool, true, false}
use mathlib.Core.List.{List}
use mathlib.Core.Path.{◌≡◌, refl, sym, ap, ◌∙◌}
use Prim.Native.Nat.{ℕ}
use native.Mathlib.Omega.{arith}
use Rattle.sums.specs.Choice.{unless_refused}
use Rattle.sums.proofs.Choices.{refused-by}
use Rattle.book.specs.declared.Figures.{Figures}
use Rattle.book.specs.Sound.{sound_b}
use Rattle.book.specs.Asked.{standing_of}
use Rattle.book.proofs.StandingRefusals.{unsound-refused, standing-number}
use Rattle.bookfile.specs.Facts.{is_two}
use Rattle.lent.specs.Held.{book_of, sound_in, lent_refusal}
use Rattle.embedded.specs.Asked.{are_seven, listed, standing_refusal, standing_after}
use Rattle.lent.proofs.Lent.{two-sound, refused-1, none-refused, unfit-refused}
use Rattle.lent.proofs.Refused.{stays, given}

module _ (bytes : List ℕ) (account : ℕ) (figures : List ℕ) where
  -- what is returned, and what is in the figures then
  abbrev pub Gives : ℕ → List ℕ → Type 0
  Gives n after = (n ≡ standing_refusal bytes account figures) × (after ≡ standing_after bytes account figures)

  refused : {n : ℕ} → n ≡ standing_refusal bytes account figures → (n ≡ 0 → ⊥) → Gives n figures
  unfolding standing_after
  refused e h = (e, stays _ figures e h)

  pub unfit : {n : ℕ} → are_seven figures ≡ false → n ≡ lent_refusal bytes false → Gives n figures
  unfolding standing_refusal
  unfit {n} f e = refused is (λ q. unfit-refused bytes (sym e ∙ q))
    where
      is : n ≡ standing_refusal bytes account figures
      is = rw (f, e) (refused-by _ _ (λ k. k) (unfit-refused bytes))

  pub no-book : sound_in bytes ≡ false → Gives 1 figures
  unfolding standing_refusal
  no-book e = refused is (λ q. omega arith)
    where
      is : 1 ≡ standing_refusal bytes account figures
      is = rw (refused-1 bytes (are_seven figures) e)

  -- by the book's own answer
  module _ (seven : are_seven figures ≡ true) (two : is_two bytes ≡ true) (f : Figures) (e : f ≡ standing_of (book_of bytes) account) where
    number : f.refusal ≡ standing_refusal bytes account figures
    unfolding standing_refusal
    number = by (sound_b (book_of bytes)) refl
      where
        by : (t : Bool) → sound_b (book_of bytes) ≡ t → f.refusal ≡ unless_refused (lent_refusal bytes (are_seven figures)) (standing_of (book_of bytes) account).refusal (λ n. n)
        by true s = rw (seven, none-refused bytes (two-sound bytes two ∙ s)) (ap (λ x. x.refusal) e)
        by false s =
            rw (seven, refused-1 bytes true (two-sound bytes two ∙ s))
            (ap (λ x. x.refusal) e ∙ standing-number (book_of bytes) account ∙ unsound-refused (book_of bytes) account s)

    pub refuses : (f.refusal ≡ 0 → ⊥) → Gives f.refusal figures
    refuses h = refused number h

    pub answers : f.refusal ≡ 0 → Gives 0 (listed f)
    unfolding standing_after
    answers z = (sym z ∙ number, given _ (sym number ∙ z) (ap listed e))
