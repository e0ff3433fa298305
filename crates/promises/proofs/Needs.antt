-- K3, totals beside the rows: document 02's sentences as theorems. Its list at P4 is among the figures (Claim).
use mathlib.Core.Bool.{Bool, true, false, not}
use mathlib.Core.List.{List}
use mathlib.Core.Logic.{◌⊎◌, inl, inr}
use mathlib.Core.Path.{◌≡◌, refl, sym, ap, ◌∙◌}
use Prim.Native.Nat.{ℕ, ◌<◌}
use native.Mathlib.Omega.{arith}
use lib.ListN.{length, get_or, drop}
use borrow.Author.Tests.{ne_eqb}
use Rattle.sums.specs.Choice.{unless_refused}
use Rattle.sums.proofs.Choices.{pick_yes, pick_no}
use Rattle.sums.proofs.Tables.{first-here}
use Rattle.sums.proofs.Lists.{length-list_to, at-list_to}
use Rattle.rows.specs.declared.Row.{Row}
use Rattle.rows.specs.declared.Book.{Book}
use Rattle.rows.specs.View.{need}
use Rattle.rows.specs.Rows.{row_at, place_of, mode_at, need_at, view, fresh_book, with_row, with_new, with_modes, with_needs, opened_row, has_live_client}
use Rattle.rows.specs.KeptNeeds.{kept_need, needs_afresh, settled}
use Rattle.rows.proofs.BySort.{need-CM, need-TM, need-client, need-CP}
use Rattle.rows.proofs.KeptNeeds.{kept-CM, kept-TM, kept-none}
use Rattle.book.specs.Sound.{sound_b}
use Rattle.book.specs.Asked.{standing_refusals, standing_refusal, figures_of}
use Rattle.book.specs.NeedsListed.{needs_refusals, needs_refusal, all_needs, needs_room}
use Rattle.book.specs.Evening.{evening_sum, evening_of}
use Rattle.book.specs.declared.Amount.{Amount}
use Rattle.book.proofs.SoundTest.{sound→}
use Rattle.book.proofs.Settled.{sound-rows, retired-need}
use Rattle.book.proofs.StandingRefusals.{unsound-refused}
use Rattle.book.proofs.NeedsAnswers.{needs-unsound, needs-no-room}
use Rattle.book.proofs.EveningAnswers.{unsound-evening}
use Rattle.dayfile.specs.declared.Record.{Record}
use Rattle.rules.specs.Refusals.{is_opening, refusals, refusal_of}
use Rattle.rules.specs.Effects.{amended, effect_of, moved_on, changed_by, book_after}
use Rattle.rules.specs.declared.Change.TheVariants.{Put, Open}
use Rattle.rules.specs.Numbered.{placed, row_named, verdict_of}
use Rattle.desk.specs.declared.Outcome.TheVariants.{Refused}
use Rattle.desk.specs.Answers.{nobody}
use Rattle.desk.specs.Steps.{step_of, next_of}
use Rattle.desk.proofs.Doing.{unsound-next}
use Rattle.desk.proofs.ModesAfter.{carried-book, needs-after, needs_stay, other-needs-stay}
use Rattle.records.specs.declared.Closing.TheVariants.{Unsound}
use Rattle.records.specs.Runs.{ended_with, ran_of}
use Rattle.records.proofs.NumbersPut.{ran-unsound}
use Rattle.closeout.specs.Closing.{close_out_refusals, close_out_refusal, loss_at}
use Rattle.closeout.specs.Columns.{four, total}
use Rattle.closeout.proofs.Answers.{refused-sound}
use Rattle.promises.specs.Sequences.{after_all}
use Rattle.promises.proofs.Modes.{every-sequence-is-looked-at}

-- "A sound book now includes that each kept need equals the need worked out afresh":
module _ (b : Book) (s : sound_b b ≡ true) where
  -- at place 0 the CM's is kept, ..
  pub the-CM's-need-is-kept : need_at b 0 ≡ need (view b) 0
  the-CM's-need-is-kept = (sound→ b s).kept 0 (omega arith) ∙ kept-CM (view b) ∙ sym (need-CM (view b) 0 (sound→ b s).shaped.top)

  -- .. at a TM's (sort 1) its own, ..
  pub a-TM's-need-is-kept : (i : ℕ) → i < b.count → (row_at b i).sort ≡ 1 → need_at b i ≡ need (view b) i
  a-TM's-need-is-kept i l c =
      let n : (i ≡ 0 → ⊥) = λ e. omega (arith, (sound→ b s).shaped.top, ap (λ j. (row_at b j).sort) e) in
      (sound→ b s).kept i (omega (arith, (sound→ b s).most)) ∙ kept-TM (view b) i n c ∙ sym (need-TM (view b) i c)

  -- .. and at any other place 0: a client's, a CP's, one never given.
  pub no-other-need-is-kept : (i : ℕ) → i < 256 → (i ≡ 0 → ⊥) → ((row_at b i).sort ≡ 1 → ⊥) → need_at b i ≡ 0
  no-other-need-is-kept i l n c = (sound→ b s).kept i l ∙ kept-none (view b) i n (ne_eqb _ 1 c)

-- "and a wrong one is refusal 1": with one kept need that isn't the one worked out afresh ..
module _ (b : Book) (i : ℕ) (l : i < 256) (wrong : need_at b i ≡ kept_need (view b) i → ⊥) where
  -- .. a book isn't sound, ..
  pub a-wrong-need-is-not-sound : sound_b b ≡ false
  a-wrong-need-is-not-sound = by (sound_b b) refl
    where
      by : (t : Bool) → sound_b b ≡ t → sound_b b ≡ false
      by true e = absurd (wrong ((sound→ b e).kept i l))
      by false e = e

  -- .. and gives 1 to a standing, to the list of needs, to an evening sum, to a close-out, ..
  pub a-wrong-need-is-refused : (account : ℕ) (losses room : List ℕ) (a : Amount)
      → (standing_refusal b account ≡ 1) × (needs_refusal b room ≡ 1) × (evening_of b a ≡ record { refusal = 1; total = 0 }) × (close_out_refusal b losses room ≡ 1)
  a-wrong-need-is-refused account losses room a =
      let e = a-wrong-need-is-not-sound in
      (unsound-refused b account e, needs-unsound b room e, unsound-evening b a e, refused-sound b losses room e)

  -- .. to a record handed over as values and to one from a place of a file, and as the closing word of a day.
  pub a-wrong-need-refuses-records : (r : Record) (piece : List ℕ) (place most : ℕ)
      → (verdict_of b r ≡ 1)
      × (next_of b piece place ≡ record { answer = nobody (Refused 1); book = b; place = place })
      × (ran_of b piece most ≡ ended_with Unsound b 0 0 0)
  unfolding refusal_of
  a-wrong-need-refuses-records r piece place most =
      let e = a-wrong-need-is-not-sound in
      (first-here 1 (not (sound_b b)) (drop 1 (refusals b (placed b r))) (ap not e), sym (unsound-next b piece place e), sym (ran-unsound b piece most e))

-- a book after a look and with needs worked out is another one's but for modes and kept needs
but-for-both : (c d : Book) → c ≡ settled d → c ≡ with_needs (with_modes d c.modes) c.needs
but-for-both c d e = e ∙ sym (ap (λ q. with_needs (with_modes d q.modes) q.needs) e)

-- "Keep every TM's and the CM's need beside the rows and bring it up to date":
module _ (b : Book) (r : Record) where
  -- after a record carried out the kept needs are those worked out afresh, ..
  pub worked-out-afresh : verdict_of b r ≡ 0 → (step_of b r).book.needs ≡ needs_afresh (view (step_of b r).book)
  worked-out-afresh = needs-after b r

  -- .. and a refusal leaves them.
  pub a-refusal-changes-no-kept-need : 0 < verdict_of b r → (step_of b r).book.needs ≡ b.needs
  a-refusal-changes-no-kept-need = needs_stay b r

  -- "from the one row that changed": of a sound book's those of the account named, its TM (0, the CM, for any account but a client) and the CM
  -- may move, and no other. What the code puts at these three is `steps.Looks.needed_since`; that it is the same, `rules.Moves.put-needs`.
  pub no-other-need-moves : sound_b b ≡ true → (i : ℕ) → i < 256 → (i ≡ place_of b r.account → ⊥) → (i ≡ (row_named b r).tm → ⊥) → (i ≡ 0 → ⊥)
      → need_at (step_of b r).book i ≡ need_at b i
  no-other-need-moves s = other-needs-stay b r (sound→ b s)

  -- "a record may also change kept needs": a record carried out that is no opening changes one row, the serial, modes and kept needs, no more;
  pub no-more-than-one-row : verdict_of b r ≡ 0 → is_opening r ≡ false
      → (step_of b r).book ≡ with_needs (with_modes (moved_on (with_row b (place_of b r.account) (amended (row_named b r) (placed b r)))) (step_of b r).book.modes) (step_of b r).book.needs
  no-more-than-one-row e o =
      but-for-both (step_of b r).book (moved_on (with_row b (place_of b r.account) (amended (row_named b r) (placed b r))))
      (carried-book b r e ∙ ap (λ c. settled (changed_by b (place_of b r.account) c)) (pick_no (is_opening r) _ _ o))

  -- an opening also the number of accounts.
  pub no-more-than-one-row-opened : verdict_of b r ≡ 0 → is_opening r ≡ true
      → (step_of b r).book ≡ with_needs (with_modes (moved_on (with_new b (opened_row r.code (place_of b r.account)))) (step_of b r).book.modes) (step_of b r).book.needs
  no-more-than-one-row-opened e o =
      but-for-both (step_of b r).book (moved_on (with_new b (opened_row r.code (place_of b r.account))))
      (carried-book b r e ∙ ap (λ c. settled (changed_by b (place_of b r.account) c)) (pick_yes (is_opening r) _ _ o))

-- So every book that records make from a fresh one keeps the needs worked out afresh.
pub every-sequence-keeps-them : (rs : List Record) → (after_all fresh_book rs).needs ≡ needs_afresh (view (after_all fresh_book rs))
every-sequence-keeps-them rs = sym (ap (λ b. b.needs) (every-sequence-is-looked-at rs))

-- "Other answers stay": only 1 looks at what is kept. With any list in the place of the kept needs the same are ..
module _ (b : Book) (needs : List ℕ) where
  -- .. the lines of the table for a record after 1, ..
  pub same-lines-after-1 : (r : Record) → drop 1 (refusals (with_needs b needs) (placed (with_needs b needs) r)) ≡ drop 1 (refusals b (placed b r))
  unfolding has_live_client
  same-lines-after-1 r = refl

  -- .. a record's effect, ..
  pub same_effect : (r : Record) → effect_of (row_named (with_needs b needs) r) (place_of (with_needs b needs) r.account) (placed (with_needs b needs) r) ≡ effect_of (row_named b r) (place_of b r.account) (placed b r)
  same_effect r = refl

  -- .. the book after a row is put anew, ..
  pub same-book-after-a-row : (place : ℕ) (row : Row) → book_after (with_needs b needs) place (Put row) ≡ book_after b place (Put row)
  same-book-after-a-row place row = refl

  -- .. and after one is opened, ..
  pub same-book-after-an-opening : (place : ℕ) (row : Row) → book_after (with_needs b needs) place (Open row) ≡ book_after b place (Open row)
  same-book-after-an-opening place row = refl

  -- .. the lines of a standing after 1, ..
  pub same-standing-after-1 : (account : ℕ) → drop 1 (standing_refusals (with_needs b needs) account) ≡ drop 1 (standing_refusals b account)
  same-standing-after-1 account = refl

  -- .. and so are its figures; ..
  pub same-figures-whatever-is-kept : (i : ℕ) → figures_of (view (with_needs b needs)) (mode_at (with_needs b needs) i) i ≡ figures_of (view b) (mode_at b i) i
  same-figures-whatever-is-kept i = refl

  -- .. the lines of a close-out after 1, ..
  pub same-close-out-after-1 : (losses room : List ℕ) → drop 1 (close_out_refusals (with_needs b needs) losses room) ≡ drop 1 (close_out_refusals b losses room)
  same-close-out-after-1 losses room = refl

  -- .. its four columns ..
  pub same-columns-whatever-is-kept : (loss : ℕ → ℕ) (i : ℕ) → four (view (with_needs b needs)) loss i ≡ four (view b) loss i
  same-columns-whatever-is-kept loss i = refl

  -- .. and its total; ..
  pub same-total-whatever-is-kept : (losses : List ℕ) → total (view (with_needs b needs)) (loss_at losses) ≡ total (view b) (loss_at losses)
  same-total-whatever-is-kept losses = refl

  -- .. an evening sum, ..
  pub same-evening-sum : (a : Amount) → evening_sum (with_needs b needs) a ≡ evening_sum b a
  unfolding evening_sum
  same-evening-sum a = refl

  -- .. the lines of the list of needs after 1 ..
  pub same-needs-after-1 : (room : List ℕ) → drop 1 (needs_refusals (with_needs b needs) room) ≡ drop 1 (needs_refusals b room)
  same-needs-after-1 room = refl

  -- .. and the list itself.
  pub same-list : all_needs (with_needs b needs) ≡ all_needs b
  unfolding all_needs
  same-list = refl

-- "all needs in one list (refusals 1; 15, room not one for each account)":
module _ (b : Book) where
  -- the room then has it, ..
  pub the-room-has-the-list : (room : List ℕ) → needs_refusal b room ≡ 0 → needs_room b room ≡ all_needs b
  unfolding needs_room
  the-room-has-the-list room e = ap (λ k. unless_refused k (all_needs b) (λ n. room)) e

  -- .. and at a sound book any other length of it gives 15, a longer one too;
  pub another-length-gives-15 : (room : List ℕ) → sound_b b ≡ true → (length room ≡ b.count → ⊥) → needs_refusal b room ≡ 15
  another-length-gives-15 room = needs-no-room b room

  -- one for each account, ..
  pub one-for-each-account : length (all_needs b) ≡ b.count
  unfolding all_needs
  one-for-each-account = length-list_to (need (view b)) b.count

  -- .. in rising number, ..
  pub in-rising-number : (i : ℕ) → i < b.count → get_or (all_needs b) i 0 ≡ need (view b) i
  unfolding all_needs
  in-rising-number i l = at-list_to (need (view b)) b.count i 0 l

  -- .. of a client (sort 2) and of a CP (sort 3) its margin, ..
  pub a-client's-or-CP's-is-its-margin : (i : ℕ) → i < b.count → ((row_at b i).sort ≡ 2) ⊎ ((row_at b i).sort ≡ 3) → get_or (all_needs b) i 0 ≡ (row_at b i).margin
  a-client's-or-CP's-is-its-margin i l (inl c) = in-rising-number i l ∙ need-client (view b) i c
  a-client's-or-CP's-is-its-margin i l (inr c) = in-rising-number i l ∙ need-CP (view b) i c

  -- .. and of a retired account 0, where the book is sound.
  pub a-retired-account's-is-0 : sound_b b ≡ true → (i : ℕ) → i < b.count → (row_at b i).live ≡ false → get_or (all_needs b) i 0 ≡ 0
  a-retired-account's-is-0 s i l gone = in-rising-number i l ∙ retired-need b (sound-rows b (sound→ b s)) i l gone
