-- K10, crystallised obligations by client: document 02's sentences as theorems. A figure is signed: what is payable is above 0, what is receivable below.
use mathlib.Core.Bool.{Bool, true, false, not, ◌&&◌}
use mathlib.Core.List.{List, [], ◌∷◌, ◌++◌}
use mathlib.Core.Path.{◌≡◌, refl, sym, ap, ◌∙◌}
use Prim.Native.Nat.{ℕ, zero, suc, ◌+◌, ◌*◌, ◌/◌, ◌^◌, ◌≤◌, ◌<◌}
use native.Mathlib.Decide.{ℕ_discrete}
use native.Mathlib.Omega.{arith}
use borrow.Author.Tests.{ltb-true, ltb-false, lt-ltb, le-ltb, not-false, not-true}
use lib.Dec.{ltb}
use lib.IntN.{ℤ, pos, ◌+ℤ◌}
use lib.ListN.{length, take, get_or}
use lib.Signed.{le_z}
use Rattle.sums.specs.Choice.{pick, unless_refused}
use Rattle.sums.specs.Table.{◌when◌, first}
use Rattle.sums.proofs.Choices.{test-clash}
use Rattle.sums.proofs.Tables.{first-here, first-later}
use Rattle.rows.specs.Rows.{ceiling}
use Rattle.dayfile.specs.declared.Record.{Record}
use Rattle.dayfile.specs.declared.Read.TheVariants.{Good}
use Rattle.dayfile.specs.Records.{fault_of}
use Rattle.dayfile.specs.Files.{WordsFit}
use Rattle.dayfile.specs.Written.{written_of}
use Rattle.dayfile.specs.Reading.{read_at}
use Rattle.dayfile.proofs.RoundTrip.{read-written}
use Rattle.currency.specs.declared.Position.{Position}
use Rattle.currency.specs.declared.Made.TheVariants.{Given}
use Rattle.currency.specs.Charges.{first_fault}
use Rattle.currency.specs.Margins.{sum_of, refusal_of as margin_refusal, margin_record, made_of, number_made}
use Rattle.currency.proofs.Given.{margin-good, margin-fits}
use Rattle.exposure.specs.declared.lists.Form.{Form}
use Rattle.exposure.specs.declared.lists.Form.TheVariants.{Intraday, EndOfDay}
use Rattle.exposure.specs.Exposures.{in_range, all_in_range, payable_of, total_of, answer, exposure_of, intraday_of}
use Rattle.exposure.specs.Joined.{joined_sum, last_refusals, refusal_of, joined_of}
use Rattle.exposure.specs.Lists.{width_of, clients_in, Agree, client_of, list_refusal, list_room}
use Rattle.exposure.proofs.Parts.{nothing-added}
use Rattle.exposure.proofs.Rising.{payable-rises}
use Rattle.exposure.proofs.Joining.{amount-most}
use Rattle.exposure.proofs.JoinGiven.{joined}
use Rattle.exposure.proofs.Listing.{same_answer, figures-wrong, room-wrong, all_right, answers-in-room}
use Rattle.promises.specs.InOrder.{InOrder}
use Rattle.promises.specs.Positions.{NoneAtFault, in_turn}
use Rattle.promises.proofs.Exactly.{in_order}
use Rattle.currency.proofs.Numbers.{number-made}
use Rattle.promises.proofs.Positions.{given-at-0, chosen, by-table, last-chosen, by-last-alone, by-0}

-- "a client's figure, or its 22, doesn't change with any other client's": of any two lists that agree on one client's figures, that client has the same answer,
pub a-client's-answer-is-its-own : (form : Form) (l m : List ℤ) (i : ℕ) → Agree form i l m → client_of form l i ≡ client_of form m i
a-client's-answer-is-its-own = same_answer

-- and so the same two numbers in the rooms, whatever the other clients' figures are and however many there are.
pub so-are-its-two-numbers-in-the-room : (form : Form) (l m : List ℤ) (room other : List ℕ) (i : ℕ) → Agree form i l m
    → list_refusal form l room ≡ 0 → list_refusal form m other ≡ 0 → i < clients_in form (length l) → i < clients_in form (length m)
    → (get_or (list_room form l room) (2 * i) 0 ≡ get_or (list_room form m other) (2 * i) 0)
    × (get_or (list_room form l room) (2 * i + 1) 0 ≡ get_or (list_room form m other) (2 * i + 1) 0)
so-are-its-two-numbers-in-the-room form l m room other i a p q h k =
    let x = answers-in-room form l room p i h in
    let y = answers-in-room form m other q i k in
    let same = same_answer form l m i a in
    (x.0 ∙ ap (λ e. e.refusal) same ∙ sym y.0, x.1 ∙ ap (λ e. e.amount) same ∙ sym y.1)

-- The amount is never above the figures' ceilings added up; below 0 it can't be.
pub an-amount-is-at-most-four-ceilings : (premium loss exercise settlement : ℤ) → (exposure_of premium loss exercise settlement).amount ≤ ceiling + ceiling + ceiling + ceiling
an-amount-is-at-most-four-ceilings = amount-most

-- Raising a figure, or several, never lowers what is payable.
pub raising-a-figure-never-lowers-it : (a b c d x y z w : ℤ) → le_z a x ≡ true → le_z b y ≡ true → le_z c z ≡ true → le_z d w ≡ true
    → payable_of (total_of a b c d) ≤ payable_of (total_of x y z w)
raising-a-figure-never-lowers-it = payable-rises

-- "The end of day form adds exercise and final settlement figures": where both are 0 it gives the intraday amount, or its 22.
pub nothing-added-is-the-intraday-form : (premium loss : ℤ) → exposure_of premium loss (pos 0) (pos 0) ≡ intraday_of premium loss
nothing-added-is-the-intraday-form = nothing-added

module _ (serial account initial : ℕ) (positions : List Position) (number : ℕ) (premium loss exercise settlement : ℤ) (r : Record)
    (given : joined_of serial account initial positions number premium loss exercise settlement ≡ Given r) where
  -- "It joins K9's sum before the record is sent": the record sets the margin to K9's sum and what is payable,
  pub the-record-has-both : r ≡ margin_record serial account (joined_sum premium loss exercise settlement initial (take number positions))
  the-record-has-both = (joined serial account initial positions number premium loss exercise settlement r given).is

  -- it is good: the book's 4, 5 and 6 never meet it,
  pub the-joined-record-is-good : fault_of r ≡ 0
  the-joined-record-is-good =
      let p = joined serial account initial positions number premium loss exercise settlement r given in
      ap fault_of p.is ∙ margin-good serial account (joined_sum premium loss exercise settlement initial (take number positions)) p.within

  -- and what is written of it reads back.
  pub the-joined-record-reads-back : serial < 2 ^ 16 → account < 2 ^ 16 → (before after : List ℕ)
      → read_at (before ++ (written_of r ++ after)) (length before) ≡ Good r (length before + length (written_of r))
  the-joined-record-reads-back s a before after =
      let fits : WordsFit r = rw the-record-has-both (margin-fits serial account (joined_sum premium loss exercise settlement initial (take number positions)) s a) in
      read-written r the-joined-record-is-good fits before after

-- a client's answer, by whether its figures are in range
answer-exactly : (ranged : Bool) (total : ℤ) → ((answer ranged total).refusal ≡ 22 → ranged ≡ false) × (ranged ≡ false → (answer ranged total).refusal ≡ 22)
unfolding pick
answer-exactly true total = ((λ e. absurd (omega arith)), (λ e. test-clash refl e))
answer-exactly false total = ((λ e. refl), (λ e. refl))

in-range-answer : (ranged : Bool) (total : ℤ) → ranged ≡ true → answer ranged total ≡ record { refusal = 0; amount = payable_of total }
unfolding pick
in-range-answer ranged total e = rw e

-- "22, a figure out of range": a client's 22 is given exactly then, in the intraday form ..
pub intraday-22-exactly-when : (premium loss : ℤ) → ((intraday_of premium loss).refusal ≡ 22 → (in_range premium && in_range loss) ≡ false)
    × ((in_range premium && in_range loss) ≡ false → (intraday_of premium loss).refusal ≡ 22)
unfolding intraday_of
intraday-22-exactly-when premium loss = answer-exactly (in_range premium && in_range loss) (premium +ℤ loss)

-- .. and in the end of day form; ..
pub end-of-day-22-exactly-when : (premium loss exercise settlement : ℤ)
    → ((exposure_of premium loss exercise settlement).refusal ≡ 22 → all_in_range premium loss exercise settlement ≡ false)
    × (all_in_range premium loss exercise settlement ≡ false → (exposure_of premium loss exercise settlement).refusal ≡ 22)
unfolding exposure_of
end-of-day-22-exactly-when premium loss exercise settlement =
    answer-exactly (all_in_range premium loss exercise settlement) (total_of premium loss exercise settlement)

-- .. otherwise there is no refusal, and the amount is what is payable, intraday ..
pub intraday-otherwise-payable : (premium loss : ℤ) → (in_range premium && in_range loss) ≡ true
    → intraday_of premium loss ≡ record { refusal = 0; amount = payable_of (premium +ℤ loss) }
unfolding intraday_of
intraday-otherwise-payable premium loss = in-range-answer (in_range premium && in_range loss) (premium +ℤ loss)

-- .. and at the end of day.
pub end-of-day-otherwise-payable : (premium loss exercise settlement : ℤ) → all_in_range premium loss exercise settlement ≡ true
    → exposure_of premium loss exercise settlement ≡ record { refusal = 0; amount = payable_of (total_of premium loss exercise settlement) }
unfolding exposure_of
end-of-day-otherwise-payable premium loss exercise settlement =
    in-range-answer (all_in_range premium loss exercise settlement) (total_of premium loss exercise settlement)

exactly-15 : {A B : Type 0} (n : ℕ) → Dec A → Dec B → (A → B → n ≡ 0) → ((A → ⊥) → 15 ≡ n) → ((B → ⊥) → 15 ≡ n)
    → (n ≡ 15 → A × B → ⊥) × ((A × B → ⊥) → n ≡ 15)
exactly-15 n (yes a) (yes b) right f g = ((λ e h. omega (arith, right a b)), (λ h. absurd (h (a, b))))
exactly-15 n (yes a) (no b) right f g = ((λ e h. b h.1), (λ h. sym (g b)))
exactly-15 n (no a) d right f g = ((λ e h. a h.0), (λ h. sym (f a)))

-- A list of clients is refused as a whole, with 15, exactly when the figures are not two (at the end of day four) for each client, or the room is not two for each.
pub a-list's-15-exactly-when : (form : Form) (l : List ℤ) (room : List ℕ)
    → (list_refusal form l room ≡ 15 → (width_of form * clients_in form (length l) ≡ length l) × (length room ≡ 2 * clients_in form (length l)) → ⊥)
    × (((width_of form * clients_in form (length l) ≡ length l) × (length room ≡ 2 * clients_in form (length l)) → ⊥) → list_refusal form l room ≡ 15)
a-list's-15-exactly-when Intraday l room =
    exactly-15 _ (ℕ_discrete (2 * (length l / 2)) (length l)) (ℕ_discrete (length room) (2 * (length l / 2)))
    (all_right Intraday l room) (λ h. (figures-wrong Intraday l room h).0) (λ h. (room-wrong Intraday l room h).0)
a-list's-15-exactly-when EndOfDay l room =
    exactly-15 _ (ℕ_discrete (4 * (length l / 4)) (length l)) (ℕ_discrete (length room) (2 * (length l / 4)))
    (all_right EndOfDay l room) (λ h. (figures-wrong EndOfDay l room h).0) (λ h. (room-wrong EndOfDay l room h).0)

-- which of the last three lines decides
at-22 : (s t u : Bool) → first ((20 when s) ∷ (22 when t) ∷ (21 when u) ∷ []) ≡ 22 → (s ≡ false) × (t ≡ true)
unfolding first pick
at-22 true t u e = absurd (omega arith)
at-22 false true u e = (refl, refl)
at-22 false false true e = absurd (omega arith)
at-22 false false false e = absurd (omega arith)

at-21 : (s t u : Bool) → first ((20 when s) ∷ (22 when t) ∷ (21 when u) ∷ []) ≡ 21 → (s ≡ false) × (t ≡ false) × (u ≡ true)
unfolding first pick
at-21 true t u e = absurd (omega arith)
at-21 false true u e = absurd (omega arith)
at-21 false false true e = (refl, refl, refl)
at-21 false false false e = absurd (omega arith)

at-0 : (s t u : Bool) → first ((20 when s) ∷ (22 when t) ∷ (21 when u) ∷ []) ≡ 0 → (s ≡ false) × (t ≡ false) × (u ≡ false)
unfolding first pick
at-0 true t u e = absurd (omega arith)
at-0 false true u e = absurd (omega arith)
at-0 false false true e = absurd (omega arith)
at-0 false false false e = (refl, refl, refl)

none-of-three : (s t u : Bool) → s ≡ false → t ≡ false → u ≡ false → first ((20 when s) ∷ (22 when t) ∷ (21 when u) ∷ []) ≡ 0
unfolding first pick
none-of-three s t u a b c = rw (a, b, c)

-- up to 20 the two choices are the same
same-to-20 : (many : Bool) (fault : ℕ) (s t u v : Bool) (k : ℕ) → 0 < k → k ≤ 20
    → (pick many 15 (unless_refused fault (first ((20 when s) ∷ (22 when t) ∷ (21 when u) ∷ [])) (λ n. n)) ≡ k
    → pick many 15 (unless_refused fault (first ((20 when s) ∷ (21 when v) ∷ [])) (λ n. n)) ≡ k)
    × (pick many 15 (unless_refused fault (first ((20 when s) ∷ (21 when v) ∷ [])) (λ n. n)) ≡ k
    → pick many 15 (unless_refused fault (first ((20 when s) ∷ (22 when t) ∷ (21 when u) ∷ [])) (λ n. n)) ≡ k)
unfolding first pick
same-to-20 true fault s t u v k h l = ((λ e. e), (λ e. e))
same-to-20 false (suc n) s t u v k h l = ((λ e. e), (λ e. e))
same-to-20 false zero true t u v k h l = ((λ e. e), (λ e. e))
same-to-20 false zero false t u v k h l = ((λ e. absurd (three t u e)), (λ e. absurd (two v e)))
  where
    three : (t u : Bool) → pick t 22 (pick u 21 0) ≡ k → ⊥
    three true u e = omega arith
    three false true e = omega arith
    three false false e = omega arith

    two : (v : Bool) → pick v 21 0 ≡ k → ⊥
    two true e = omega arith
    two false e = omega arith

-- The joined call, by the number that what is made names, 0 for a record:
module _ (serial account initial : ℕ) (positions : List Position) (number : ℕ) (premium loss exercise settlement : ℤ) where
  is-chosen : number_made (joined_of serial account initial positions number premium loss exercise settlement)
      ≡ chosen (ltb 64 number) (take number positions) (last_refusals premium loss exercise settlement initial (take number positions))
  unfolding joined_of refusal_of
  is-chosen =
      number-made (refusal_of premium loss exercise settlement initial positions number)
      (margin_record serial account (joined_sum premium loss exercise settlement initial (take number positions)))

  -- K9's order, with "22, a figure out of range, before 21": 15, each position's 18, 19 and 20, the initial margin's 20, 22, then 21 of the joined sum; each exactly when its test
  -- holds and no earlier one does.
  pub each-joined-refusal-in-its-order : (k : ℕ) → 0 < k
      → InOrder (number_made (joined_of serial account initial positions number premium loss exercise settlement)) k
      (in_turn number positions (last_refusals premium loss exercise settlement initial (take number positions)))
  each-joined-refusal-in-its-order =
      in_order (in_turn number positions (last_refusals premium loss exercise settlement initial (take number positions)))
      (is-chosen ∙ by-table (ltb 64 number) (take number positions) (last_refusals premium loss exercise settlement initial (take number positions)))

  -- So 15 and 18 to 20 are given exactly when K9 gives them, ..
  pub up-to-20-as-K9 : (k : ℕ) → 0 < k → k ≤ 20
      → (number_made (joined_of serial account initial positions number premium loss exercise settlement) ≡ k → number_made (made_of serial account initial positions number) ≡ k)
      × (number_made (made_of serial account initial positions number) ≡ k → number_made (joined_of serial account initial positions number premium loss exercise settlement) ≡ k)
  unfolding made_of margin_refusal
  up-to-20-as-K9 k h l =
      let own = number-made (margin_refusal initial positions number) (margin_record serial account (sum_of initial (take number positions))) in
      let same =
      same-to-20 (ltb 64 number) (first_fault (take number positions)) (ltb ceiling initial) (not (all_in_range premium loss exercise settlement))
      (ltb ceiling (joined_sum premium loss exercise settlement initial (take number positions))) (ltb ceiling (sum_of initial (take number positions))) k h l in
      ((λ e. own ∙ same.0 (sym is-chosen ∙ e)), (λ e. is-chosen ∙ same.1 (sym own ∙ e)))

  -- .. 22 exactly when nothing of that is so and a figure is out of range, ..
  pub twenty-two-exactly-when : (number_made (joined_of serial account initial positions number premium loss exercise settlement) ≡ 22
      → (number ≤ 64) × NoneAtFault (take number positions) × (initial ≤ ceiling) × (all_in_range premium loss exercise settlement ≡ false))
      × ((number ≤ 64) × NoneAtFault (take number positions) × (initial ≤ ceiling) × (all_in_range premium loss exercise settlement ≡ false)
      → number_made (joined_of serial account initial positions number premium loss exercise settlement) ≡ 22)
  twenty-two-exactly-when = (
    (λ e.
        let c = by-last-alone _ (take number positions) _ 22 (omega arith) (sym is-chosen ∙ e) in
        let t = at-22 _ _ _ c.2 in
        (ltb-false 64 number c.0, c.1, ltb-false ceiling initial t.0, not-true _ t.1)),
    (λ h.
        is-chosen ∙ last-chosen _ (take number positions) _ (le-ltb 64 number h.0) h.1
        ∙ first-later 20 _ _ (le-ltb ceiling initial h.2) ∙ first-here 22 _ _ (ap not h.3)),
  )

  -- .. directly before 21: that one exactly when all figures are in range and the sum of both is past the ceiling, ..
  pub joined-21-exactly-when : (number_made (joined_of serial account initial positions number premium loss exercise settlement) ≡ 21
      → (number ≤ 64) × NoneAtFault (take number positions) × (initial ≤ ceiling) × (all_in_range premium loss exercise settlement ≡ true)
      × (ceiling < joined_sum premium loss exercise settlement initial (take number positions)))
      × ((number ≤ 64) × NoneAtFault (take number positions) × (initial ≤ ceiling) × (all_in_range premium loss exercise settlement ≡ true)
      × (ceiling < joined_sum premium loss exercise settlement initial (take number positions))
      → number_made (joined_of serial account initial positions number premium loss exercise settlement) ≡ 21)
  joined-21-exactly-when = (
    (λ e.
        let c = by-last-alone _ (take number positions) _ 21 (omega arith) (sym is-chosen ∙ e) in
        let t = at-21 _ _ _ c.2 in
        (ltb-false 64 number c.0, c.1, ltb-false ceiling initial t.0, not-false _ t.1, ltb-true ceiling _ t.2)),
    (λ h.
        is-chosen ∙ last-chosen _ (take number positions) _ (le-ltb 64 number h.0) h.1
        ∙ first-later 20 _ _ (le-ltb ceiling initial h.2) ∙ first-later 22 _ _ (ap not h.3) ∙ first-here 21 _ _ (lt-ltb ceiling _ h.4)),
  )

  -- .. and the record is made exactly when nothing of all that is so.
  pub a-joined-record-exactly-when : (joined_of serial account initial positions number premium loss exercise settlement
      ≡ Given (margin_record serial account (joined_sum premium loss exercise settlement initial (take number positions)))
      → (number ≤ 64) × NoneAtFault (take number positions) × (initial ≤ ceiling) × (all_in_range premium loss exercise settlement ≡ true)
      × (joined_sum premium loss exercise settlement initial (take number positions) ≤ ceiling))
      × ((number ≤ 64) × NoneAtFault (take number positions) × (initial ≤ ceiling) × (all_in_range premium loss exercise settlement ≡ true)
      × (joined_sum premium loss exercise settlement initial (take number positions) ≤ ceiling)
      → joined_of serial account initial positions number premium loss exercise settlement
      ≡ Given (margin_record serial account (joined_sum premium loss exercise settlement initial (take number positions))))
  unfolding joined_of
  a-joined-record-exactly-when =
      let r = margin_record serial account (joined_sum premium loss exercise settlement initial (take number positions)) in
      let n = refusal_of premium loss exercise settlement initial positions number in (
        (λ e.
            let c = by-0 _ (take number positions) _ (sym is-chosen ∙ number-made n r ∙ (given-at-0 n r).0 e) in
            let t = at-0 _ _ _ c.2 in
            (ltb-false 64 number c.0, c.1, ltb-false ceiling initial t.0, not-false _ t.1, ltb-false ceiling _ t.2)),
        (λ h.
            (given-at-0 n r).1
            (sym (number-made n r) ∙ is-chosen ∙ last-chosen _ (take number positions) _ (le-ltb 64 number h.0) h.1
            ∙ none-of-three _ _ _ (le-ltb ceiling initial h.2) (ap not h.3) (le-ltb ceiling _ h.4))),
      )
