-- P1 to P11, Annexure 5, K3's list, K7's tenth, K9's charges, K10's clients, K13's statements, K14's orders and how much would have passed, by one claim over the list: `figures`, at the end. What stands before it makes it quick to compute: by the rules each
-- record asks whether the book is sound, which is long to compute, and holds by theorem (Quick).
use mathlib.Core.Bool.{not}
use mathlib.Core.List.{List, [], ◌∷◌, ◌++◌, map}
use mathlib.Core.Path.{◌≡◌, refl, sym, ap, ◌∙◌}
use Prim.Native.Nat.{ℕ}
use lib.Count.{ones, ones_in}
use lib.Dec.{eqb}
use Rattle.sums.specs.Sum.{sum, all, any, least}
use Rattle.sums.specs.Choice.{pick, unless_refused}
use Rattle.sums.specs.Listed.{list_to}
use Rattle.sums.specs.Table.{Line, ◌when◌, first}
use Rattle.sums.proofs.Tables.{first-later}
use Rattle.numbers.specs.Bytes.{number, bytes_of}
use Rattle.rows.specs.declared.Book.{Book}
use Rattle.rows.specs.View.{need_tm, need_cm, need, blocked, deemed}
use Rattle.rows.specs.Rows.{row_at, place_of, is_live, place_among, counted, fresh_book, has_live_client, need_at, view}
use Rattle.rows.specs.Modes.{use_tm, use_cm, use_of, mode_after, looked}
use Rattle.rows.specs.KeptNeeds.{needs_afresh}
use Rattle.book.specs.NeedsListed.{all_needs}
use Rattle.book.specs.Sound.{sound_b}
use Rattle.book.specs.Facts.{Sound}
use Rattle.book.proofs.FreshSound.{fresh-sound, fresh-test}
use Rattle.book.proofs.SoundTest.{sound←}
use Rattle.dayfile.specs.declared.Record.{Record}
use Rattle.dayfile.specs.declared.Found.{Found}
use Rattle.dayfile.specs.declared.Found.TheVariants.{End as NoBytes, Cut as TooFew, Whole}
use Rattle.dayfile.specs.Records.{fault_of}
use Rattle.dayfile.specs.Written.{field}
use Rattle.dayfile.specs.Reading.{got, past, record_of, found_from, found_at, size_of}
use Rattle.rules.specs.Effects.{amended}
use Rattle.rules.proofs.WhatIsBeside.{refusal_by, change_by}
use Rattle.passing.specs.Most.{most_of}
use Rattle.passing.specs.Inner.{refusal_at, largest_by}
use Rattle.passing.proofs.Exactly.{quick_most, quick-most}
use Rattle.desk.specs.declared.Outcome.TheVariants.{Refused, End}
use Rattle.desk.specs.Answers.{nobody, refusal_in}
use Rattle.desk.specs.Steps.{Next, step_of, on_found, next_of}
use Rattle.desk.proofs.Doing.{sound-next}
use Rattle.records.proofs.SoundRun.{step-sound}
use Rattle.closeout.specs.Round.{from_tm, asked_of_cm, from_cm, unpaid}
use Rattle.closeout.specs.Columns.{paid₁, part₂, own_column, tm_column, cm_column, uncovered, four, rows_to}
use Rattle.closeout.specs.Closing.{closed_of, room_of}
use Rattle.statement.specs.declared.Finding.{Finding}
use Rattle.statement.specs.Forms.{bit_for, set_of, amounts_of, record_for, parts_from, bad_amounts}
use Rattle.statement.specs.Statements.{clients_from, live_clients, found, finding_from, statement_finding}
use Rattle.currency.specs.Rates.{rates, rate_of}
use Rattle.currency.specs.Charges.{fault_of as fault_in, first_fault, charge_of, charges}
use Rattle.currency.specs.Margins.{sum_of, refusal_of as margin_refusal, made_of}
use Rattle.exposure.specs.Exposures.{intraday_of}
use Rattle.promises.specs.Sequences.{after_all}
use Rattle.promises.specs.Archivings.{answers_to}
use Rattle.promises.specs.Figures.{Question, blocked_after, deemed_after, refusal_after, refusals_after, closed_after, bytes_long, refusal_read, excess_after, used_after, needs_after, collateral_after, margin_of, rates_of, exposure_to, statement_after, most_after}
use Rattle.promises.specs.Figures.{cases, each, excess_in, used_in, closed_in, zeros, by_the_rules, cases_by_the_rules, expected, margin_in, rates_in, exposure_in, finding_in, most_in}
use Rattle.promises.proofs.Quick.{quick_step, quick-step, all_sound, quick_all, quick-all, quick_closed, quick_room, quick-closed, quick-room}

-- the ways to carry out, quickly
abbrev quick_read : Found → Next
quick_read NoBytes = record { answer = nobody End; book = fresh_book; place = 0 }
quick_read TooFew = record { answer = nobody (Refused 2); book = fresh_book; place = 0 }
quick_read (Whole r next) = record { answer = (quick_step fresh_book r).answer; book = (quick_step fresh_book r).book; place = next }

after_same : (rs : List Record) → after_all fresh_book rs ≡ quick_all fresh_book rs
after_same rs = quick-all fresh_book rs fresh-sound

more_same : (rs : List Record) (r : Record) → step_of (after_all fresh_book rs) r ≡ quick_step (quick_all fresh_book rs) r
more_same rs r = quick-step (after_all fresh_book rs) r (all_sound fresh_book rs fresh-sound) ∙ ap (λ b. quick_step b r) (after_same rs)

read_same : (s : List ℕ) → next_of fresh_book s 0 ≡ quick_read (found_at s 0)
read_same s = sym (sound-next fresh_book s 0 (found_at s 0) fresh-test refl) ∙ by (found_at s 0)
  where
    by : (f : Found) → on_found fresh_book 0 f ≡ quick_read f
    by NoBytes = refl
    by TooFew = refl
    by (Whole r next) = ap (λ d. record { answer = d.answer; book = d.book; place = next }) (quick-step fresh_book r fresh-sound)

-- the refusals of records, one after the other
unfoldable quick_refusals : Book → List Record → List ℕ
quick_refusals b [] = []
quick_refusals b (r ∷ rs) = refusal_in (quick_step b r).answer.outcome ∷ quick_refusals (quick_step b r).book rs

quick-refusals : (b : Book) (rs : List Record) → Sound b → map (λ a. refusal_in a.outcome) (answers_to b rs) ≡ quick_refusals b rs
unfolding answers_to quick_refusals
quick-refusals b [] s = refl
quick-refusals b (r ∷ rs) s =
    ap (λ l. refusal_in (step_of b r).answer.outcome ∷ l) (quick-refusals (step_of b r).book rs (step-sound b r s))
    ∙ ap (λ d. refusal_in d.answer.outcome ∷ quick_refusals d.book rs) (quick-step b r s)

refusals-same : (rs qs : List Record) → map (λ a. refusal_in a.outcome) (answers_to (after_all fresh_book rs) qs) ≡ quick_refusals (quick_all fresh_book rs) qs
refusals-same rs qs = quick-refusals (after_all fresh_book rs) qs (all_sound fresh_book rs fresh-sound) ∙ ap (λ b. quick_refusals b qs) (after_same rs)

closed_same : (rs : List Record) (losses room : List ℕ) → closed_of (after_all fresh_book rs) losses room ≡ quick_closed (quick_all fresh_book rs) losses room
closed_same rs losses room =
    quick-closed (after_all fresh_book rs) losses room (all_sound fresh_book rs fresh-sound) ∙ ap (λ b. quick_closed b losses room) (after_same rs)

room-same : (rs : List Record) (losses room : List ℕ) → room_of (after_all fresh_book rs) losses room ≡ quick_room (quick_all fresh_book rs) losses room
room-same rs losses room =
    quick-room (after_all fresh_book rs) losses room (all_sound fresh_book rs fresh-sound) ∙ ap (λ b. quick_room b losses room) (after_same rs)

-- a statement held against a book that is known to be sound
abbrev refused7 : Book → ℕ → List Line
refused7 b tm = (7 when not (is_live b (place_of b tm))) ∷ (8 when not (eqb (row_at b (place_of b tm)).sort 1)) ∷ []

abbrev quick_finding : Book → ℕ → List ℕ → Finding
quick_finding b tm s = unless_refused (first (refused7 b tm)) (finding_from b 0 (live_clients b (place_of b tm)) s) (λ n. found n 0 0)

finding-same : (rs : List Record) (s : List ℕ) → statement_finding (after_all fresh_book rs) 1 s ≡ quick_finding (quick_all fresh_book rs) 1 s
unfolding statement_finding
finding-same rs s =
    let b = after_all fresh_book rs in
    ap (λ n. unless_refused n (finding_from b 0 (live_clients b (place_of b 1)) s) (λ n. found n 0 0))
    (first-later 1 (not (sound_b b)) (refused7 b 1) (ap not (sound← b (all_sound fresh_book rs fresh-sound))))
    ∙ ap (λ c. quick_finding c 1 s) (after_same rs)

most-same : (rs : List Record) (r : Record) → most_of (after_all fresh_book rs) r ≡ quick_most (quick_all fresh_book rs) r
most-same rs r = quick-most (after_all fresh_book rs) r (all_sound fresh_book rs fresh-sound) ∙ ap (λ b. quick_most b r) (after_same rs)

-- what is said to each question, quickly
unfoldable quickly : Question → List ℕ
quickly (blocked_after rs) = each (blocked (view (quick_all fresh_book rs)))
quickly (deemed_after rs) = each (deemed (view (quick_all fresh_book rs)))
quickly (refusal_after rs r) = refusal_in (quick_step (quick_all fresh_book rs) r).answer.outcome ∷ []
quickly (refusals_after rs qs) = quick_refusals (quick_all fresh_book rs) qs
quickly (closed_after rs losses) =
    closed_in (quick_all fresh_book rs) losses (quick_closed (quick_all fresh_book rs) losses zeros) (quick_room (quick_all fresh_book rs) losses zeros)
quickly (bytes_long named) = size_of named ∷ []
quickly (refusal_read s) = refusal_in (quick_read (found_at s 0)).answer.outcome ∷ []
quickly (excess_after rs) = excess_in (quick_all fresh_book rs)
quickly (used_after rs i) = used_in (quick_all fresh_book rs) i
quickly (needs_after rs) = all_needs (quick_all fresh_book rs) ++ each (need_at (quick_all fresh_book rs))
quickly (collateral_after rs i) = (view (quick_all fresh_book rs)).collateral i ∷ []
quickly (margin_of p) = margin_in p
quickly (rates_of product) = rates_in product
quickly (exposure_to premium loss) = exposure_in premium loss
quickly (statement_after rs s) = finding_in (quick_finding (quick_all fresh_book rs) 1 s)
quickly (most_after rs r) = most_in (quick_most (quick_all fresh_book rs) r)

same : (q : Question) → by_the_rules q ≡ quickly q
unfolding by_the_rules quickly
same (blocked_after rs) = ap (λ b. each (blocked (view b))) (after_same rs)
same (deemed_after rs) = ap (λ b. each (deemed (view b))) (after_same rs)
same (refusal_after rs r) = ap (λ d. refusal_in d.answer.outcome ∷ []) (more_same rs r)
same (refusals_after rs qs) = refusals-same rs qs
same (closed_after rs losses) = λ i. closed_in (after_same rs i) losses (closed_same rs losses zeros i) (room-same rs losses zeros i)
same (bytes_long named) = refl
same (refusal_read s) = ap (λ n. refusal_in n.answer.outcome ∷ []) (read_same s)
same (excess_after rs) = ap excess_in (after_same rs)
same (used_after rs i) = ap (λ b. used_in b i) (after_same rs)
same (needs_after rs) = ap (λ b. all_needs b ++ each (need_at b)) (after_same rs)
same (collateral_after rs i) = ap (λ b. (view b).collateral i ∷ []) (after_same rs)
same (margin_of p) = refl
same (rates_of product) = refl
same (exposure_to premium loss) = refl
same (statement_after rs s) = ap finding_in (finding-same rs s)
same (most_after rs r) = ap most_in (most-same rs r)

cases_quickly : List (List ℕ)
cases_quickly = map (λ c. quickly c.asked) cases

same_cases : cases_by_the_rules ≡ cases_quickly
unfolding cases_by_the_rules cases_quickly
same_cases i = map (λ c. same c.asked i) cases

computed : cases_quickly ≡ expected
unfolding cases_quickly quickly quick_refusals counted cases expected quick_all place_among least any change_by amended refusal_by first pick sum all need_tm need_cm need has_live_client fresh_book fault_of found_at found_from record_of number got past ones ones_in rows_to four paid₁ part₂ own_column tm_column cm_column uncovered from_tm asked_of_cm from_cm unpaid looked list_to use_of use_tm use_cm mode_after all_needs needs_afresh made_of margin_refusal first_fault fault_in rates rate_of sum_of charges charge_of intraday_of clients_from finding_from record_for set_of amounts_of bit_for field bytes_of parts_from bad_amounts refusal_at largest_by
computed = refl

-- document 01's figures, Annexure 5's, K3's list, K7's tenth, K9's charges, K10's clients, K13's statements, K14's orders and how much would have passed, by the rules
pub figures : cases_by_the_rules ≡ expected
figures = same_cases ∙ computed
