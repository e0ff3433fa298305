-- Every record, carried out or refused, leaves a sound book sound.
use mathlib.Core.Bool.{Bool, true, false, not, ◌||◌}
use mathlib.Core.Logic.{◌⊎◌, inl, inr}
use mathlib.Core.Path.{◌≡◌, refl}
use Prim.Native.Nat.{ℕ, zero, suc, ◌+◌}
use native.Mathlib.Omega.{arith}
use native.Mathlib.Decide.{ℕ_discrete}
use lib.Dec.{leb, ltb, eqb}
use borrow.Author.Tests.{ltb-false, leb-false, eqb-true, eqb-false, not-false}
use Rattle.sums.specs.Choice.{pick, unless_refused}
use Rattle.sums.proofs.Choices.{or-fails, pick_yes, pick_no}
use Rattle.rows.specs.declared.Row.{Row}
use Rattle.rows.specs.declared.Book.{Book}
use Rattle.rows.specs.Facts.{KindsWithin}
use Rattle.rows.specs.Rows.{ceiling, opened_row, with_row, with_new, plus_kinds, less_kinds, has_live_client}
use Rattle.rows.specs.Ranges.{kinds_capped, kinds_within, no_amounts}
use Rattle.book.specs.Facts.{SoundRows, Sound}
use Rattle.book.proofs.RowFacts.{within→, capped→}
use Rattle.book.proofs.SoundAfter.{serial-rows, serial-sound, receive-sound, hand-back-sound, allocate-sound, release-sound, pledge-sound, unpledge-sound, set-pledged-sound, margin-sound, retire-sound, open-sound}
use Rattle.book.proofs.LiveClients.{no-live-client}
use Rattle.book.proofs.Settled.{sound-rows, settled-sound}
use Rattle.dayfile.specs.declared.Record.{Record}
use Rattle.rules.specs.declared.Change.{Change}
use Rattle.rules.specs.declared.Change.TheVariants.{Refuse, Put, Open}
use Rattle.rules.specs.Refusals.{is_opening, none_left, named_row, refusal_of}
use Rattle.rules.specs.Effects.{amended, effect_of, change_of, next_serial, moved_on, changed_by, book_after}
use Rattle.rules.proofs.Faults.{amounts-in}
use Rattle.rules.proofs.Codes.{Code, open_tm, open_client, open_cp, receive, hand_back, allocate, release, pledge, unpledge, margin, retire, set_pledged, set_margin, known-code-cases}
use Rattle.rules.proofs.Passing.{Passes, passes-all}
use Rattle.rules.proofs.Amending.{by-receive, by-hand-back, by-allocate, by-release, by-pledge, by-unpledge, by-margin, by-set-pledged, by-set-margin, by-retire}

-- the book after a change, its serial not yet moved on
abbrev rows_after : Book → Record → Change → Book
rows_after b r (Refuse n) = b
rows_after b r (Put x) = with_row b r.account x
rows_after b r (Open x) = with_new b x

module _ (b : Book) (r : Record) (p : Passes b r) where
  abbrev row : Row
  row = named_row b r

  -- a row that the rules make of the one named, put in its place
  put : (x : Row) → amended row r ≡ x → SoundRows (with_row b r.account x) → SoundRows (with_row b r.account (amended row r))
  put x e s = rw e s

  -- the account named is the CM, whose number is 0
  cm-named : row.sort ≡ 0 → r.account ≡ 0
  cm-named e = by (ℕ_discrete r.account 0)
    where
      by : Dec (r.account ≡ 0) → r.account ≡ 0
      by (yes q) = q
      by (no q) = absurd (⊎-none (p.sound.shaped.sorts r.account (omega arith) p.account))
        where
          ⊎-none : (row.sort ≡ 1) ⊎ ((row.sort ≡ 2) ⊎ (row.sort ≡ 3)) → ⊥
          ⊎-none (inl q) = omega arith
          ⊎-none (inr (inl q)) = omega arith
          ⊎-none (inr (inr q)) = omega arith

  receives : r.code ≡ 4 → SoundRows (with_row b r.account (amended row r))
  receives e =
      let h : (not (kinds_capped (plus_kinds row.received r.kinds)) || false) ≡ false = rw e at p.capped in
      put _ (by-receive row r e)
      (receive-sound b p.sound r.account p.account p.live r.kinds (capped→ _ (not-false _ (or-fails _ _ h).0)))

  -- hand back and allocate are of at most received less allocated
  left-enough : (r.code ≡ 5) ⊎ (r.code ≡ 6) → KindsWithin r.kinds (less_kinds row.received row.allocated)
  left-enough (inl e) =
      let h : (not (kinds_within r.kinds (less_kinds row.received row.allocated)) || false || false) ≡ false = rw e at p.enough in
      within→ _ _ (not-false _ (or-fails _ _ (or-fails _ _ h).0).0)
  left-enough (inr e) =
      let h : (not (kinds_within r.kinds (less_kinds row.received row.allocated)) || false || false) ≡ false = rw e at p.enough in
      within→ _ _ (not-false _ (or-fails _ _ (or-fails _ _ h).0).0)

  hands-back : r.code ≡ 5 → SoundRows (with_row b r.account (amended row r))
  hands-back e =
      put _ (by-hand-back row r e)
      (hand-back-sound b p.sound r.account p.account p.live r.kinds (left-enough (inl e)))

  allocates : r.code ≡ 6 → SoundRows (with_row b r.account (amended row r))
  allocates e =
      put _ (by-allocate row r e)
      (allocate-sound b p.sound r.account p.account p.live r.kinds (left-enough (inr e)))

  releases : r.code ≡ 7 → SoundRows (with_row b r.account (amended row r))
  releases e =
      let h : (not (kinds_within r.kinds row.allocated) || false) ≡ false = rw e at p.enough in
      put _ (by-release row r e)
      (release-sound b p.sound r.account p.account p.live r.kinds (within→ _ _ (not-false _ (or-fails _ _ h).0)))

  pledges : r.code ≡ 8 → SoundRows (with_row b r.account (amended row r))
  pledges e =
      let h : ltb ceiling (row.pledged + r.pledged) ≡ false = rw e at p.capped in
      put _ (by-pledge row r e) (pledge-sound b p.sound r.account p.account p.live r.pledged (ltb-false _ _ h))

  unpledges : r.code ≡ 9 → SoundRows (with_row b r.account (amended row r))
  unpledges e =
      let h : ltb row.pledged r.pledged ≡ false = rw e at p.enough in
      put _ (by-unpledge row r e) (unpledge-sound b p.sound r.account p.account p.live r.pledged (ltb-false _ _ h))

  sets-margin : (r.code ≡ 10) ⊎ (r.code ≡ 13) → SoundRows (with_row b r.account (amended row r))
  sets-margin (inl e) = put _ (by-margin row r e) (margin-sound b p.sound r.account p.account p.live r.margin (amounts-in r p.good).margin)
  sets-margin (inr e) = put _ (by-set-margin row r e) (margin-sound b p.sound r.account p.account p.live r.margin (amounts-in r p.good).margin)

  sets-pledged : r.code ≡ 12 → SoundRows (with_row b r.account (amended row r))
  sets-pledged e = put _ (by-set-pledged row r e) (set-pledged-sound b p.sound r.account p.account p.live r.pledged (amounts-in r p.good).pledged)

  retires : r.code ≡ 11 → SoundRows (with_row b r.account (amended row r))
  retires e =
      let h : (not (no_amounts row) || has_live_client b r.account) ≡ false = rw e at p.retirable in
      let z : eqb r.account 0 ≡ false = rw e at p.sort in
      put _ (by-retire row r e)
      (retire-sound b p.sound r.account p.account (eqb-false _ _ z) (not-false _ (or-fails (not (no_amounts row)) (has_live_client b r.account) h).0)
      (no-live-client b r.account (or-fails (not (no_amounts row)) (has_live_client b r.account) h).1))

  -- an opening: the code's sort, a number left, and a TM or the CM named
  opens : (r.code ≡ 1) ⊎ ((r.code ≡ 2) ⊎ (r.code ≡ 3)) → none_left b.count b.next ≡ false → (r.code ≡ 2 → row.sort ≡ 1)
      → ((r.code ≡ 2 → ⊥) → row.sort ≡ 0) → SoundRows (with_new b (opened_row r.code r.account))
  opens c n tm cm =
      open-sound b p.sound r.code r.account (leb-false _ _ (or-fails (leb 256 b.count) (leb 65536 b.next) n).0) (leb-false _ _ (or-fails (leb 256 b.count) (leb 65536 b.next) n).1) c (λ e. (p.account, tm e, p.live)) (λ ne. cm-named (cm ne))

  opens-TM : r.code ≡ 1 → SoundRows (with_new b (opened_row r.code r.account))
  opens-TM e =
      let n : none_left b.count b.next ≡ false = rw e at p.number in
      let h : (not (eqb row.sort 0) || false || false) ≡ false = rw e at p.sort in
      opens (inl e) n (λ q. absurd (omega arith)) (λ q. eqb-true _ _ (not-false _ (or-fails _ _ (or-fails _ _ h).0).0))

  opens-CP : r.code ≡ 3 → SoundRows (with_new b (opened_row r.code r.account))
  opens-CP e =
      let n : none_left b.count b.next ≡ false = rw e at p.number in
      let h : (not (eqb row.sort 0) || false || false) ≡ false = rw e at p.sort in
      opens (inr (inr e)) n (λ q. absurd (omega arith)) (λ q. eqb-true _ _ (not-false _ (or-fails _ _ (or-fails _ _ h).0).0))

  opens-client : r.code ≡ 2 → SoundRows (with_new b (opened_row r.code r.account))
  opens-client e =
      let n : none_left b.count b.next ≡ false = rw e at p.number in
      let h : (not (eqb row.sort 1) || false) ≡ false = rw e at p.sort in
      opens (inr (inl e)) n (λ q. eqb-true _ _ (not-false _ (or-fails _ _ h).0)) (λ q. absurd (q e))

  putting : is_opening r ≡ false → SoundRows (with_row b r.account (amended row r)) → SoundRows (rows_after b r (effect_of row r.account r))
  putting e s = rw (pick_no (is_opening r) (Open (opened_row r.code r.account)) (Put (amended row r)) e) s

  opening : is_opening r ≡ true → SoundRows (with_new b (opened_row r.code r.account)) → SoundRows (rows_after b r (effect_of row r.account r))
  opening e s = rw (pick_yes (is_opening r) (Open (opened_row r.code r.account)) (Put (amended row r)) e) s

  pub passing-sound : SoundRows (rows_after b r (effect_of row r.account r))
  passing-sound = by (known-code-cases r.code p.good.known)
    where
      by : Code r.code → SoundRows (rows_after b r (effect_of row r.account r))
      by (open_tm e) = opening (rw e) (opens-TM e)
      by (open_client e) = opening (rw e) (opens-client e)
      by (open_cp e) = opening (rw e) (opens-CP e)
      by (receive e) = putting (rw e) (receives e)
      by (hand_back e) = putting (rw e) (hands-back e)
      by (allocate e) = putting (rw e) (allocates e)
      by (release e) = putting (rw e) (releases e)
      by (pledge e) = putting (rw e) (pledges e)
      by (unpledge e) = putting (rw e) (unpledges e)
      by (margin e) = putting (rw e) (sets-margin (inl e))
      by (retire e) = putting (rw e) (retires e)
      by (set_pledged e) = putting (rw e) (sets-pledged e)
      by (set_margin e) = putting (rw e) (sets-margin (inr e))

-- a change leaves sound rows where those after it are
moved-rows : (b : Book) (r : Record) (c : Change) → SoundRows b → SoundRows (rows_after b r c) → SoundRows (changed_by b r.account c)
unfolding pick
moved-rows b r (Refuse n) s t = by (leb n 3)
  where
    by : (t : Bool) → SoundRows (pick t b (moved_on b))
    by true = s
    by false = serial-rows b (next_serial b.serial) s
moved-rows b r (Put x) s t = serial-rows (with_row b r.account x) (next_serial b.serial) t
moved-rows b r (Open x) s t = serial-rows (with_new b x) (next_serial b.serial) t

pub change-rows : (b : Book) (r : Record) → Sound b → SoundRows (changed_by b r.account (change_of b r))
unfolding change_of
change-rows b r s = moved-rows b r (change_of b r) (sound-rows b s) (by (refusal_of b r) refl)
  where
    by : (n : ℕ) → refusal_of b r ≡ n → SoundRows (rows_after b r (unless_refused n (effect_of (named_row b r) r.account r) Refuse))
    by zero e = passing-sound b r (passes-all b r e)
    by (suc n) e = sound-rows b s

-- after a refusal modes and kept needs are as they were, and after a record carried out they were looked at and worked out afresh
looked-sound : (b : Book) (place : ℕ) (c : Change) → Sound b → SoundRows (changed_by b place c) → Sound (book_after b place c)
unfolding pick
looked-sound b place (Refuse n) s t = by (leb n 3)
  where
    by : (t : Bool) → Sound (pick t b (moved_on b))
    by true = s
    by false = serial-sound b (next_serial b.serial) s
looked-sound b place (Put x) s t = settled-sound (changed_by b place (Put x)) t
looked-sound b place (Open x) s t = settled-sound (changed_by b place (Open x)) t

pub change-sound : (b : Book) (r : Record) → Sound b → Sound (book_after b r.account (change_of b r))
change-sound b r s = looked-sound b r.account (change_of b r) s (change-rows b r s)
