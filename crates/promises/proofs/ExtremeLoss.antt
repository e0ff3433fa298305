-- K9, the extreme loss margin: document 02's sentences as theorems, of what `currency::margin` makes for any serial, account, initial margin, positions and number of them.
use mathlib.Core.Bool.{Bool, true, false}
use mathlib.Core.List.{List, [], ◌∷◌, ◌++◌}
use mathlib.Core.Logic.{◌⊎◌, inl, inr}
use mathlib.Core.Path.{◌≡◌, refl, sym, ap, ◌∙◌}
use Prim.Native.Nat.{ℕ, ◌+◌, ◌*◌, ◌^◌, ◌≤◌, ◌<◌}
use native.Mathlib.Omega.{arith}
use borrow.Author.Tests.{ltb-true, ltb-false, lt-ltb, le-ltb}
use lib.Dec.{ltb}
use lib.ListN.{length, take}
use Rattle.sums.specs.Choice.{pick}
use Rattle.sums.specs.Table.{◌when◌, first}
use Rattle.sums.proofs.Tables.{first-here, first-later}
use Rattle.rows.specs.Rows.{ceiling}
use Rattle.dayfile.specs.declared.Record.{Record}
use Rattle.dayfile.specs.declared.Read.TheVariants.{Good}
use Rattle.dayfile.specs.Records.{fault_of}
use Rattle.dayfile.specs.Files.{WordsFit}
use Rattle.dayfile.specs.Written.{written_of}
use Rattle.dayfile.specs.Reading.{read_at}
use Rattle.dayfile.proofs.RoundTrip.{read-written}
use Rattle.currency.specs.declared.Side.TheVariants.{Short, Long}
use Rattle.currency.specs.declared.Position.{Position}
use Rattle.currency.specs.declared.Made.TheVariants.{Given}
use Rattle.currency.specs.Charges.{faults as fault_lines, fault_of as position_fault, share_of, parts_of, charge_of, charges}
use Rattle.currency.specs.Margins.{sum_of, last_refusals, refusal_of, margin_record, made_of, number_made}
use Rattle.currency.proofs.Making.{sum-within}
use Rattle.currency.proofs.Given.{passed, margin-good, margin-fits}
use Rattle.currency.proofs.Rounding.{charge-not-below, charge-least}
use Rattle.currency.proofs.Sums.{margin-is, more-not-less, exchanged_same}
use Rattle.currency.proofs.Options.{long-carries-none, unlisted-is, is-unlisted}
use Rattle.promises.specs.InOrder.{InOrder}
use Rattle.promises.specs.Positions.{FirstAtFault, NoneAtFault, in_turn}
use Rattle.promises.proofs.Exactly.{in_order}
use Rattle.currency.proofs.Numbers.{number-made}
use Rattle.promises.proofs.Positions.{none-there, there-none, chosen, by-table, by-fault, fault-chosen, last-chosen, by-15, chosen-15, by-fault-alone, by-last-alone}

module _ (serial account initial : ℕ) (positions : List Position) (number : ℕ) (r : Record) (given : made_of serial account initial positions number ≡ Given r) where
  -- "makes the code 10 record": for the account and with the serial handed over,
  pub the-record-sets-the-margin : r ≡ margin_record serial account (sum_of initial (take number positions))
  the-record-sets-the-margin = (passed serial account initial positions number r given).is

  -- and its margin is the initial margin with the charges of the positions, no more and no less.
  pub to-the-initial-margin-and-the-charges : r.margin ≡ initial + charges (take number positions)
  to-the-initial-margin-and-the-charges = margin-is serial account initial positions number r given

  -- The record is good: the book's 4, 5 and 6 never meet it,
  pub the-record-is-good : fault_of r ≡ 0
  the-record-is-good =
      let p = passed serial account initial positions number r given in
      ap fault_of p.is ∙ margin-good serial account (sum_of initial (take number positions)) p.within

  -- and where serial and account fit their two bytes, as the call's types say, what is written of it reads back, at any place of a day file.
  pub it-reads-back : serial < 2 ^ 16 → account < 2 ^ 16 → (before after : List ℕ)
      → read_at (before ++ (written_of r ++ after)) (length before) ≡ Good r (length before + length (written_of r))
  it-reads-back s a before after =
      let p = passed serial account initial positions number r given in
      let fits : WordsFit r = rw p.is (margin-fits serial account (sum_of initial (take number positions)) s a) in
      read-written r the-record-is-good fits before after

module _ (serial account initial : ℕ) (ps qs : List Position) (n m : ℕ) (a b : List Position) where
  -- A position more, at any place, never lowers the margin, where both are given.
  pub a-position-more-never-lowers-it : (p : Position) → take n ps ≡ a ++ b → take m qs ≡ a ++ (p ∷ b) → (r s : Record)
      → made_of serial account initial ps n ≡ Given r → made_of serial account initial qs m ≡ Given s → r.margin ≤ s.margin
  a-position-more-never-lowers-it = more-not-less serial account initial ps qs n m a b

  -- Two neighbours exchanged give the same record, where it is given: the order of positions decides on refusals alone.
  pub neighbours-exchanged-give-the-same : (p q : Position) → take n ps ≡ a ++ (p ∷ (q ∷ b)) → take n qs ≡ a ++ (q ∷ (p ∷ b)) → (r : Record)
      → made_of serial account initial ps n ≡ Given r → made_of serial account initial qs n ≡ Given r
  neighbours-exchanged-give-the-same = exchanged_same serial account initial ps qs n m a b

-- "Round up to a paisa once per position": a charge is not below the exact fraction, notional times rate over 100,000 or, for a spread, over 300,000;
pub a-charge-is-not-below-the-fraction : (p : Position) → share_of p ≤ charge_of p * parts_of p.side
a-charge-is-not-below-the-fraction = charge-not-below

-- and no smaller number of paise is not below it.
pub and-is-the-least-such : (p : Position) (paise : ℕ) → share_of p ≤ paise * parts_of p.side → charge_of p ≤ paise
and-is-the-least-such = charge-least

-- "Long options carry none.": the charge of a long option is 0.
pub long-options-carry-none : (p : Position) → p.side ≡ Long → charge_of p ≡ 0
long-options-carry-none = long-carries-none

-- A position's own 18, 19 and 20, in that order: each exactly when its test holds and no earlier one does; ..
pub a-position's-fault-in-its-order : (p : Position) (k : ℕ) → 0 < k → InOrder (position_fault p) k (fault_lines p)
unfolding position_fault
a-position's-fault-in-its-order p = in_order (fault_lines p) refl

-- .. "19 option (short or long) not listed": exactly when it is one, short or long, of the 91 day T-bill (8) or of ONMIBOR (9), which have none.
pub nineteen-for-short-and-long : (p : Position)
    → (position_fault p ≡ 19 → ((p.side ≡ Short) ⊎ (p.side ≡ Long)) × ((p.product ≡ 8) ⊎ (p.product ≡ 9)))
    × (((p.side ≡ Short) ⊎ (p.side ≡ Long)) × ((p.product ≡ 8) ⊎ (p.product ≡ 9)) → position_fault p ≡ 19)
nineteen-for-short-and-long p = (unlisted-is p, λ h. is-unlisted p h.0 h.1)

-- which of the last two lines decides
at-20 : (s t : Bool) → first ((20 when s) ∷ (21 when t) ∷ []) ≡ 20 → s ≡ true
unfolding first pick
at-20 true t e = refl
at-20 false true e = absurd (omega arith)
at-20 false false e = absurd (omega arith)

at-21 : (s t : Bool) → first ((20 when s) ∷ (21 when t) ∷ []) ≡ 21 → (s ≡ false) × (t ≡ true)
unfolding first pick
at-21 true t e = absurd (omega arith)
at-21 false true e = (refl, refl)
at-21 false false e = absurd (omega arith)

-- "Refusals (no record then)", by the number that what is made names, 0 for a record:
module _ (serial account initial : ℕ) (positions : List Position) (number : ℕ) where
  is-chosen : number_made (made_of serial account initial positions number) ≡ chosen (ltb 64 number) (take number positions) (last_refusals initial (take number positions))
  unfolding made_of refusal_of
  is-chosen = number-made (refusal_of initial positions number) (margin_record serial account (sum_of initial (take number positions)))

  -- "in that order": 15, then each position's 18, 19 and 20, one position after the other, then the initial margin's 20, then 21; each exactly when its test holds and no earlier
  -- one does.
  pub each-refusal-in-its-order : (k : ℕ) → 0 < k
      → InOrder (number_made (made_of serial account initial positions number)) k (in_turn number positions (last_refusals initial (take number positions)))
  each-refusal-in-its-order =
      in_order (in_turn number positions (last_refusals initial (take number positions)))
      (is-chosen ∙ by-table (ltb 64 number) (take number positions) (last_refusals initial (take number positions)))

  -- So "15 over 64 positions": exactly then.
  pub fifteen-exactly-when : (number_made (made_of serial account initial positions number) ≡ 15 → 64 < number)
      × (64 < number → number_made (made_of serial account initial positions number) ≡ 15)
  fifteen-exactly-when = (
    (λ e. ltb-true 64 number (by-15 _ (take number positions) _ (omega arith, (omega arith, tt)) (sym is-chosen ∙ e))),
    (λ h. is-chosen ∙ chosen-15 _ (take number positions) _ (lt-ltb 64 number h)),
  )

  -- "18 to 20 by first position at fault": 18 and 19 exactly when there are not more than 64 positions and the first at fault has that fault, ..
  pub eighteen-and-nineteen-exactly-when : (n : ℕ) → (n ≡ 18) ⊎ (n ≡ 19)
      → (number_made (made_of serial account initial positions number) ≡ n → (number ≤ 64) × FirstAtFault (take number positions) n)
      × ((number ≤ 64) × FirstAtFault (take number positions) n → number_made (made_of serial account initial positions number) ≡ n)
  eighteen-and-nineteen-exactly-when n which = (given (range which), back (range which))
    where
      range : (n ≡ 18) ⊎ (n ≡ 19) → (15 < n) × (n < 20)
      range (inl e) = (omega arith, omega arith)
      range (inr e) = (omega arith, omega arith)

      given : (15 < n) × (n < 20) → number_made (made_of serial account initial positions number) ≡ n → (number ≤ 64) × FirstAtFault (take number positions) n
      given k e =
          let c = by-fault-alone _ (take number positions) _ (omega arith, (omega arith, tt)) n k.0 k.1 (sym is-chosen ∙ e) in
          (ltb-false 64 number c.0, c.1)

      back : (15 < n) × (n < 20) → (number ≤ 64) × FirstAtFault (take number positions) n → number_made (made_of serial account initial positions number) ≡ n
      back k h = is-chosen ∙ fault-chosen _ (take number positions) _ n (omega (arith, k.0)) (le-ltb 64 number h.0) h.1

  -- .. 20 exactly when the first at fault has it or, "the initial margin after them", none is at fault and the initial margin is past the ceiling, ..
  pub twenty-exactly-when : (number_made (made_of serial account initial positions number) ≡ 20
      → (number ≤ 64) × (FirstAtFault (take number positions) 20 ⊎ (NoneAtFault (take number positions) × (ceiling < initial))))
      × ((number ≤ 64) × (FirstAtFault (take number positions) 20 ⊎ (NoneAtFault (take number positions) × (ceiling < initial)))
      → number_made (made_of serial account initial positions number) ≡ 20)
  twenty-exactly-when = (given, λ h. back h.0 h.1)
    where
      last : FirstAtFault (take number positions) 20 ⊎ (NoneAtFault (take number positions) × (first (last_refusals initial (take number positions)) ≡ 20))
          → FirstAtFault (take number positions) 20 ⊎ (NoneAtFault (take number positions) × (ceiling < initial))
      last (inl f) = inl f
      last (inr q) = inr (q.0, ltb-true ceiling initial (at-20 _ _ q.1))

      given : number_made (made_of serial account initial positions number) ≡ 20
          → (number ≤ 64) × (FirstAtFault (take number positions) 20 ⊎ (NoneAtFault (take number positions) × (ceiling < initial)))
      given e =
          let c = by-fault _ (take number positions) _ 20 (omega arith) (λ q. absurd (omega arith)) (sym is-chosen ∙ e) in
          (ltb-false 64 number c.0, last c.1)

      back : number ≤ 64 → FirstAtFault (take number positions) 20 ⊎ (NoneAtFault (take number positions) × (ceiling < initial))
          → number_made (made_of serial account initial positions number) ≡ 20
      back few (inl f) = is-chosen ∙ fault-chosen _ (take number positions) _ 20 (omega arith) (le-ltb 64 number few) f
      back few (inr q) = is-chosen ∙ last-chosen _ (take number positions) _ (le-ltb 64 number few) q.0 ∙ first-here 20 _ _ (lt-ltb ceiling initial q.1)

  -- .. "21 sum past the ceiling" exactly when nothing of that is so and the sum is past it, ..
  pub twenty-one-exactly-when : (number_made (made_of serial account initial positions number) ≡ 21
      → (number ≤ 64) × NoneAtFault (take number positions) × (initial ≤ ceiling) × (ceiling < sum_of initial (take number positions)))
      × ((number ≤ 64) × NoneAtFault (take number positions) × (initial ≤ ceiling) × (ceiling < sum_of initial (take number positions))
      → number_made (made_of serial account initial positions number) ≡ 21)
  twenty-one-exactly-when = (
    (λ e.
        let c = by-last-alone _ (take number positions) _ 21 (omega arith) (sym is-chosen ∙ e) in
        let t = at-21 _ _ c.2 in
        (ltb-false 64 number c.0, c.1, ltb-false ceiling initial t.0, ltb-true ceiling _ t.1)),
    (λ h.
        is-chosen ∙ last-chosen _ (take number positions) _ (le-ltb 64 number h.0) h.1
        ∙ first-later 20 _ _ (le-ltb ceiling initial h.2) ∙ first-here 21 _ _ (lt-ltb ceiling _ h.3)),
  )

  -- .. and the record is made exactly when nothing of all that is so.
  pub a-record-exactly-when : (made_of serial account initial positions number ≡ Given (margin_record serial account (sum_of initial (take number positions)))
      → (number ≤ 64) × NoneAtFault (take number positions) × (initial ≤ ceiling) × (sum_of initial (take number positions) ≤ ceiling))
      × ((number ≤ 64) × NoneAtFault (take number positions) × (initial ≤ ceiling) × (sum_of initial (take number positions) ≤ ceiling)
      → made_of serial account initial positions number ≡ Given (margin_record serial account (sum_of initial (take number positions))))
  a-record-exactly-when = (
    (λ e. let p = passed serial account initial positions number _ e in (p.few, none-there _ p.faultless, p.start, p.within)),
    (λ h. sum-within serial account initial positions number h.0 (there-none _ h.1) h.2 h.3),
  )
