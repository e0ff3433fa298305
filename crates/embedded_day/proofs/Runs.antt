-- What carrying out the records of a piece gives and leaves, case by case.
use mathlib.Core.Bool.{Bool, true, false}
use mathlib.Core.List.{List, [], ◌∷◌}
use mathlib.Core.Path.{◌≡◌, refl, sym, ap, ◌∙◌}
use Prim.Native.Nat.{ℕ}
use native.Mathlib.Omega.{arith}
use Rattle.sums.specs.Choice.{pick}
use Rattle.sums.proofs.Choices.{pick_no}
use Rattle.book.specs.Sound.{sound_b}
use Rattle.bookfile.specs.Facts.{is_two}
use Rattle.bookfile.specs.Written.{written_of}
use Rattle.records.specs.declared.Closing.{Closing}
use Rattle.records.specs.declared.Closing.TheVariants.{End, Cut, Long, Unsound}
use Rattle.records.specs.Runs.{ran_of, number_closing, closing_refusal}
use Rattle.records.specs.LineNumbers.{room_for, numbers_room}
use Rattle.run.specs.declared.Ended.{Ended}
use Rattle.run.specs.Over.{over_ran}
use Rattle.lent.specs.Held.{book_of, sound_in, lent_refusal}
use Rattle.embedded_day.specs.Day.{word_number, are_four, day_refusal, day_book, day_answers, day_told}
use Rattle.lent.proofs.Lent.{two-sound, refused-1, none-refused, unfit-refused}
use Rattle.lent.proofs.Refused.{stays, given}

-- the third number is that of an unsound book alone
three-unsound : (w : Closing) → word_number w ≡ 3 → number_closing w ≡ 1
three-unsound End q = absurd (omega arith)
three-unsound Cut q = absurd (omega arith)
three-unsound Long q = absurd (omega arith)
three-unsound Unsound q = refl

other-sound : (w : Closing) → (word_number w ≡ 3 → ⊥) → number_closing w ≡ 0
other-sound End q = refl
other-sound Cut q = refl
other-sound Long q = refl
other-sound Unsound q = absurd (q refl)

closing-1 : (t : Bool) → ◌≡◌ {A = ℕ} (pick t 0 1) 1 → t ≡ false
unfolding pick
closing-1 true q = absurd (omega arith)
closing-1 false q = refl

closing-0 : (t : Bool) → ◌≡◌ {A = ℕ} (pick t 0 1) 0 → t ≡ true
unfolding pick
closing-0 true q = refl
closing-0 false q = absurd (omega arith)

module _ (bytes piece : List ℕ) (most : ℕ) (answers told : List ℕ) where
  -- what is returned, and what is in the bytes, the answers and what is told then
  abbrev pub Gives : ℕ → List ℕ → List ℕ → List ℕ → Type 0
  Gives n book put numbers =
      (n ≡ day_refusal bytes piece most answers told) × ((book ≡ day_book bytes piece most answers told)
      × ((put ≡ day_answers bytes piece most answers told) × (numbers ≡ day_told bytes piece most answers told)))

  all-stays : {n : ℕ} → n ≡ lent_refusal bytes (are_four told) → (n ≡ 0 → ⊥) → Gives n bytes answers told
  unfolding day_refusal day_book day_answers day_told
  all-stays e h = (e, (stays _ bytes e h, (stays _ answers e h, stays _ told e h)))

  pub unfit : {n : ℕ} → are_four told ≡ false → n ≡ lent_refusal bytes false → Gives n bytes answers told
  unfit f e = all-stays (e ∙ ap (lent_refusal bytes) (sym f)) (λ q. unfit-refused bytes (sym e ∙ q))

  pub no-book : sound_in bytes ≡ false → Gives 1 bytes answers told
  no-book e = all-stays (sym (refused-1 bytes (are_four told) e)) (λ q. omega arith)

  -- by what the run gave
  module _ (four : are_four told ≡ true) (two : is_two bytes ≡ true) (x : Ended) {put : List ℕ}
      (e : x ≡ over_ran (ran_of (book_of bytes) piece (room_for most answers)))
      (a : put ≡ numbers_room (book_of bytes) piece most answers)
      (k : number_closing x.closing ≡ closing_refusal (book_of bytes)) where
    pub unsound : word_number x.closing ≡ 3 → Gives 1 bytes put told
    unfolding numbers_room
    unsound q =
        let s = closing-1 (sound_b (book_of bytes)) (sym k ∙ three-unsound x.closing q) in
        let g = no-book (two-sound bytes two ∙ s) in
        (g.0, (g.1.0, (a ∙ pick_no (sound_b (book_of bytes)) _ answers s ∙ g.1.1.0, g.1.1.1)))

    pub carried : (word_number x.closing ≡ 3 → ⊥) → Gives 0 (written_of x.table) put (word_number x.closing ∷ x.place ∷ x.read ∷ x.done ∷ [])
    unfolding day_refusal day_book day_answers day_told
    carried q =
        let s = closing-0 (sound_b (book_of bytes)) (sym k ∙ other-sound x.closing q) in
        let z = ap (lent_refusal bytes) four ∙ none-refused bytes (two-sound bytes two ∙ s) in
        let told' = given _ z (ap (λ y. word_number y.closing ∷ y.place ∷ y.read ∷ y.done ∷ []) e) in
        (sym z, (given _ z (ap (λ y. written_of y.table) e), (given _ z a, told')))
