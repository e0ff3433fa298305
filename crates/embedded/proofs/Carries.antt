-- What carrying out a record gives and leaves, case by case.
use mathlib.Core.Bool.{Bool, true, false}
use mathlib.Core.List.{List}
use mathlib.Core.Path.{◌≡◌, refl, sym, ap, ◌∙◌}
use Prim.Native.Nat.{ℕ}
use Rattle.sums.proofs.Choices.{refused-by}
use Rattle.book.specs.Sound.{sound_b}
use Rattle.book.proofs.SoundTest.{sound→}
use Rattle.bookfile.specs.Facts.{is_two}
use Rattle.bookfile.specs.Written.{written_of}
use Rattle.dayfile.specs.declared.Record.{Record}
use Rattle.rules.specs.Numbered.{placed, verdict_of}
use Rattle.rules.proofs.Deciding.{never-one}
use Rattle.desk.specs.declared.Carried.{Carried}
use Rattle.desk.specs.Answers.{refusal_in}
use Rattle.desk.specs.Over.{over_done}
use Rattle.desk.specs.Steps.{step_of}
use Rattle.desk.proofs.Doing.{unsound-step}
use Rattle.records.specs.LineNumbers.{numbers_of_line}
use Rattle.lent.specs.Held.{book_of, sound_in, lent_refusal}
use Rattle.embedded.specs.Carrying.{carried_refusal, carried_book, carried_answer}
use Rattle.lent.proofs.Lent.{two-sound, refused-1, none-refused, unfit-refused}

-- what is returned, and what is in the bytes and in the answer then
abbrev pub Gives : List ℕ → Bool → Record → List ℕ → ℕ → List ℕ → List ℕ → Type 0
Gives bytes fit r answer n after told = (n ≡ carried_refusal bytes fit r) × ((after ≡ carried_book bytes fit r) × (told ≡ carried_answer bytes fit r answer))

module _ (bytes : List ℕ) (r : Record) (answer : List ℕ) where
  pub unfit : {fit : Bool} {n : ℕ} → fit ≡ false → n ≡ lent_refusal bytes false → Gives bytes fit r answer n bytes answer
  unfolding carried_refusal carried_book carried_answer
  unfit e p =
      let h : lent_refusal bytes false ≡ 0 → ⊥ = unfit-refused bytes in
      rw (e, p) (refused-by _ _ (λ k. k) h, (refused-by _ _ (λ k. bytes) h, refused-by _ _ (λ k. answer) h))

  pub no-book : sound_in bytes ≡ false → Gives bytes true r answer 1 bytes answer
  unfolding carried_refusal carried_book carried_answer
  no-book e = rw (refused-1 bytes true e) (refl, (refl, refl))

  -- by what the desk gave
  module _ (two : is_two bytes ≡ true) (d : Carried) (e : d ≡ over_done (step_of (book_of bytes) r))
      (v : refusal_in d.answer.outcome ≡ verdict_of (book_of bytes) r) where
    pub refused : refusal_in d.answer.outcome ≡ 1 → Gives bytes true r answer 1 bytes answer
    refused q = no-book (two-sound bytes two ∙ by (sound_b (book_of bytes)) refl)
      where
        by : (t : Bool) → sound_b (book_of bytes) ≡ t → t ≡ false
        by true s = absurd (never-one (book_of bytes) (placed (book_of bytes) r) (sound→ (book_of bytes) s) (sym v ∙ q))
        by false s = refl

    pub told : (refusal_in d.answer.outcome ≡ 1 → ⊥)
        → Gives bytes true r answer (refusal_in d.answer.outcome) (written_of d.table) (numbers_of_line d.answer)
    unfolding carried_refusal carried_book carried_answer
    told q =
        rw (none-refused bytes (two-sound bytes two ∙ by (sound_b (book_of bytes)) refl))
        (ap (λ x. refusal_in x.answer.outcome) e, (ap (λ x. written_of x.table) e, ap (λ x. numbers_of_line x.answer) e))
      where
        by : (t : Bool) → sound_b (book_of bytes) ≡ t → t ≡ true
        by true s = refl
        by false s =
            absurd (q (ap (λ x. refusal_in x.answer.outcome) e ∙ ap (λ x. refusal_in x.answer.outcome) (sym (unsound-step (book_of bytes) r s))))

-- lists that are as long as they should be, and a record that is the one handed over
pub as-handed : (bytes answer : List ℕ) {after told : List ℕ} {fit : Bool} {s r : Record} {n : ℕ} → fit ≡ true → s ≡ r
    → Gives bytes true s answer n after told → Gives bytes fit r answer n after told
as-handed bytes answer p q g = rw (p, ← q) g
