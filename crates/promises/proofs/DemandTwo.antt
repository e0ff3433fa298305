-- Demand 2. Blocking by the circular; each record exactly when the rules say, and what it does; the close-out's amounts; the day
-- file's round trip and its one written form; numbers and retired accounts.
use mathlib.Core.List.{List, [], ◌∷◌, ◌++◌}
use mathlib.Core.Bool.{Bool, true, false}
use mathlib.Core.Logic.{◌⊎◌, ⊎_elim}
use mathlib.Core.Path.{◌≡◌, refl, sym, ap, ◌∙◌}
use Prim.Native.Nat.{ℕ, suc, ◌+◌, ◌-◌, ◌≤◌, ◌<◌, min}
use native.Mathlib.Omega.{arith}
use lib.ListN.{length, take, drop}
use borrow.Author.Tests.{eqb-true}
use Rattle.sums.specs.Sum.{sum, only}
use Rattle.sums.specs.Table.{Given, NoneHolds}
use Rattle.sums.proofs.Sums.{sum-eq}
use Rattle.numbers.specs.Bytes.{Bytes}
use Rattle.rows.specs.declared.Row.{Row}
use Rattle.rows.specs.declared.Book.{Book}
use Rattle.rows.specs.View.{View, is_tm, is_cp, is_client_of, of_clients, members, own_deemed, deemed_tm, need_tm, need_cm, need, blocked, deemed}
use Rattle.rows.specs.Rows.{number_at, place_of, row_at, opened_row, with_live, with_received, with_allocated, with_pledged, with_margin, plus_kinds, less_kinds, view}
use Rattle.rows.specs.KeptNeeds.{settled}
use Rattle.book.specs.Sound.{sound_b}
use Rattle.rows.proofs.BySort.{need-client, need-CP, need-TM, need-CM, deemed-client, deemed-TM, deemed-CP, client-sort}
use Rattle.book.proofs.SoundTest.{sound→}
use Rattle.dayfile.specs.declared.Record.{Record}
use Rattle.dayfile.specs.declared.Found.TheVariants.{Whole}
use Rattle.dayfile.specs.declared.Read.TheVariants.{Good}
use Rattle.dayfile.specs.declared.Wrote.TheVariants.{Written}
use Rattle.dayfile.specs.Files.{Reads, WordsFit, AllGood, file_of}
use Rattle.dayfile.specs.Records.{fault_of}
use Rattle.dayfile.specs.Reading.{found_at, read_at}
use Rattle.dayfile.specs.Written.{written_of, wrote_of, room_after}
use Rattle.dayfile.proofs.RoundTrip.{read-written, file-reads, reads-once, room-reads, written_read, written_once, read-file}
use Rattle.rules.specs.Refusals.{refusals}
use Rattle.rules.specs.Effects.{effect_of, changed_by}
use Rattle.rules.specs.Numbered.{placed, row_named, verdict_of}
use Rattle.rules.proofs.Amending.{by-receive, by-hand-back, by-allocate, by-release, by-pledge, by-unpledge, by-margin, by-retire, by-set-pledged, by-set-margin}
use Rattle.desk.specs.declared.Outcome.TheVariants.{Opened}
use Rattle.desk.specs.Answers.{carried_in}
use Rattle.desk.specs.Steps.{done_by, step_of, next_of}
use Rattle.desk.proofs.Effect.{given-exactly, exactly-given, carried-exactly, exactly-carried, passed-as}
use Rattle.desk.proofs.ModesAfter.{carried-book}
use Rattle.desk.proofs.Lasting.{numbers_stay, others-stay, retired-stays, count-stays, opened-next}
use Rattle.desk.proofs.Rows.{named-after, new-after, opened-keeps, sort-stays}
use Rattle.records.specs.Runs.{run_of, ran_of}
use Rattle.records.specs.LineNumbers.{answers_of, carried_of}
use Rattle.records.proofs.SoundRun.{run-by-next, ran-counts}
use Rattle.closeout.specs.Columns.{tm_column, cm_column, four, rows_to}
use Rattle.closeout.specs.Bound.{cell_of}
use Rattle.closeout.specs.Closing.{loss_at, close_out_refusal, room_of}
use Rattle.closeout.proofs.TwoRounds.{no-TM, CM's-third}
use Rattle.closeout.proofs.Carried.{carried-room, carried-adds}
use Rattle.promises.specs.Sequences.{after_all}

-- Blocking, as the circular orders it. An account's sort is a number: 0 is the CM, 1 a TM, 2 a client, 3 a CP. Blocked is what
-- its collateral bears of its need; deemed is what its collateral can't bear, and passes to the TM above a client, and to the CM
-- above a TM or a CP.
module _ (v : View) where
  -- A client's margin is blocked against the client's own collateral first; what is left of the margin is deemed.
  pub client's-own-first : (i : ℕ) → v.sort i ≡ 2
      → (blocked v i ≡ min (v.margin i) (v.collateral i)) × (deemed v i ≡ v.margin i - min (v.margin i) (v.collateral i))
  client's-own-first i e = (ap (λ n. min n (v.collateral i)) (need-client v i e), deemed-client v i e)

  -- So is a CP's.
  pub CP's-own-first : (i : ℕ) → v.sort i ≡ 3
      → (blocked v i ≡ min (v.margin i) (v.collateral i)) × (deemed v i ≡ v.margin i - min (v.margin i) (v.collateral i))
  CP's-own-first i e = (ap (λ n. min n (v.collateral i)) (need-CP v i e), deemed-CP v i e)

  -- Then the TM's collateral: it bears the TM's own margin and what each client of it is deemed, as far as it goes; what is left
  -- is deemed.
  pub then-the-TM's : (t : ℕ) → v.sort t ≡ 1
      → (need v t ≡ v.margin t + of_clients v t (deemed v)) × (blocked v t ≡ min (need v t) (v.collateral t)) × (deemed v t ≡ need v t - blocked v t)
  unfolding need_tm
  then-the-TM's t e = (
    need-TM v t e
        ∙ ap (λ x. v.margin t + x)
        (sum-eq v.count (λ i. only (is_client_of v t i) (own_deemed v i)) (λ i. only (is_client_of v t i) (deemed v i)) (λ i l. part i (is_client_of v t i) refl)),
    refl,
    refl,
  )
    where
      part : (i : ℕ) (x : Bool) → is_client_of v t i ≡ x → only x (own_deemed v i) ≡ only x (deemed v i)
      part i true q = sym (deemed-client v i (client-sort v t i q))
      part i false q = refl

  -- Then the CM's collateral: it bears the CM's own margin and what each TM and each CP is deemed, as far as it goes.
  pub then-the-CM's : v.sort 0 ≡ 0
      → (need v 0 ≡ v.margin 0 + sum v.count (members v (deemed v) (deemed v))) × (blocked v 0 ≡ min (need v 0) (v.collateral 0))
  unfolding need_cm
  then-the-CM's e = (
    need-CM v 0 e
        ∙ ap (λ x. v.margin 0 + x)
        (sum-eq v.count (members v (deemed_tm v) (own_deemed v)) (members v (deemed v) (deemed v)) (λ i l. head i (is_tm v i) refl (is_cp v i) refl)),
    refl,
  )
    where
      head : (i : ℕ) (x : Bool) → is_tm v i ≡ x → (y : Bool) → is_cp v i ≡ y
          → only x (deemed_tm v i) + only y (own_deemed v i) ≡ only x (deemed v i) + only y (deemed v i)
      head i true p true q = absurd (omega (arith, eqb-true (v.sort i) 1 p, eqb-true (v.sort i) 3 q))
      head i true p false q = ap (λ x. x + 0) (sym (deemed-TM v i (eqb-true (v.sort i) 1 p)))
      head i false p true q = ap (λ x. 0 + x) (sym (deemed-CP v i (eqb-true (v.sort i) 3 q)))
      head i false p false q = refl

module _ (b : Book) (r : Record) where
  -- Each refusal is given exactly when its test holds and no earlier one does.
  pub given-exactly-when : (k : ℕ) → 0 < k → (verdict_of b r ≡ k → Given k (refusals b (placed b r))) × (Given k (refusals b (placed b r)) → verdict_of b r ≡ k)
  given-exactly-when k p = (exactly-given b r k p, given-exactly b r k)

  -- A record is carried out exactly when no test holds.
  pub carried-out-exactly-when : (verdict_of b r ≡ 0 → NoneHolds (refusals b (placed b r))) × (NoneHolds (refusals b (placed b r)) → verdict_of b r ≡ 0)
  carried-out-exactly-when = (carried-exactly b r, exactly-carried b r)

  -- What a record that is carried out does: the row named is put anew or one is opened, the serial moves on, every mode is looked at, and needs are brought
  -- up to date.
  pub carried-out-does : verdict_of b r ≡ 0 → step_of b r ≡ done_by b r (effect_of (row_named b r) (place_of b r.account) (placed b r))
  carried-out-does = passed-as b r

  -- It changes one row, the serial, modes and kept needs, no more (and an opening the number of accounts): the book after it is `changed_by`, which says
  -- the row and the serial, with its modes looked at and its needs worked out afresh (`settled`).
  pub one-row-the-serial-modes-and-needs : verdict_of b r ≡ 0
      → (step_of b r).book ≡ settled (changed_by b (place_of b r.account) (effect_of (row_named b r) (place_of b r.account) (placed b r)))
  one-row-the-serial-modes-and-needs = carried-book b r

-- Code by code, what a record that is carried out does. `row` is the row of the account named before it, `after i` is account i's
-- row then; the row named is the same but for what is said to be put anew.
module _ (b : Book) (r : Record) (carried : verdict_of b r ≡ 0) where
  abbrev row : Row
  row = row_named b r

  abbrev after : ℕ → Row
  after = row_at (step_of b r).book

  -- 1, open TM: the next number's row is a TM's, live, with all amounts 0 (the account named is 0, the CM).
  pub opens-a-TM : r.code ≡ 1 → after b.count ≡ opened_row 1 (place_of b r.account)
  opens-a-TM e = new-after b r carried (rw e) ∙ ap (λ n. opened_row n (place_of b r.account)) e

  -- 2, open client: it is a client's, under the TM named, live, with all amounts 0.
  pub opens-a-client : r.code ≡ 2 → after b.count ≡ opened_row 2 (place_of b r.account)
  opens-a-client e = new-after b r carried (rw e) ∙ ap (λ n. opened_row n (place_of b r.account)) e

  -- 3, open CP: it is a CP's, live, with all amounts 0 (the account named is 0, the CM).
  pub opens-a-CP : r.code ≡ 3 → after b.count ≡ opened_row 3 (place_of b r.account)
  opens-a-CP e = new-after b r carried (rw e) ∙ ap (λ n. opened_row n (place_of b r.account)) e

  -- 4, receive: the record's amounts are added to received, kind by kind.
  pub receive-adds : r.code ≡ 4 → after (place_of b r.account) ≡ with_received row (plus_kinds row.received r.kinds)
  receive-adds e = named-after b r carried (rw e) ∙ by-receive row (placed b r) e

  -- 5, hand back: they are taken from received, kind by kind.
  pub hand-back-takes : r.code ≡ 5 → after (place_of b r.account) ≡ with_received row (less_kinds row.received r.kinds)
  hand-back-takes e = named-after b r carried (rw e) ∙ by-hand-back row (placed b r) e

  -- 6, allocate: they are added to allocated, kind by kind.
  pub allocate-adds : r.code ≡ 6 → after (place_of b r.account) ≡ with_allocated row (plus_kinds row.allocated r.kinds)
  allocate-adds e = named-after b r carried (rw e) ∙ by-allocate row (placed b r) e

  -- 7, release: they are taken from allocated, kind by kind.
  pub release-takes : r.code ≡ 7 → after (place_of b r.account) ≡ with_allocated row (less_kinds row.allocated r.kinds)
  release-takes e = named-after b r carried (rw e) ∙ by-release row (placed b r) e

  -- 8, pledge: the value is added to pledged.
  pub pledge-adds : r.code ≡ 8 → after (place_of b r.account) ≡ with_pledged row (row.pledged + r.pledged)
  pledge-adds e = named-after b r carried (rw e) ∙ by-pledge row (placed b r) e

  -- 9, unpledge: the value is taken from pledged.
  pub unpledge-takes : r.code ≡ 9 → after (place_of b r.account) ≡ with_pledged row (row.pledged - r.pledged)
  unpledge-takes e = named-after b r carried (rw e) ∙ by-unpledge row (placed b r) e

  -- 10, set margin: the margin is the record's.
  pub margin-is-set : r.code ≡ 10 → after (place_of b r.account) ≡ with_margin row r.margin
  margin-is-set e = named-after b r carried (rw e) ∙ by-margin row (placed b r) e

  -- 11, retire: the account is no longer live, and the rest of its row stays.
  pub retire-retires : r.code ≡ 11 → after (place_of b r.account) ≡ with_live row false
  retire-retires e = named-after b r carried (rw e) ∙ by-retire row (placed b r) e

  -- 12 (K8): pledged is the record's. The whole book after 12 and after 13: PricesMove.
  pub pledged-is-set : r.code ≡ 12 → after (place_of b r.account) ≡ with_pledged row r.pledged
  pledged-is-set e = named-after b r carried (rw e) ∙ by-set-pledged row (placed b r) e

  -- 13 (K8): the margin is the record's.
  pub margin-is-set-anew : r.code ≡ 13 → after (place_of b r.account) ≡ with_margin row r.margin
  margin-is-set-anew e = named-after b r carried (rw e) ∙ by-set-margin row (placed b r) e

-- Accounts, their numbers and their rows last.
module _ (b : Book) (r : Record) where
  -- No other account's row changes.
  pub others-keep-their-rows : (i : ℕ) → i < b.count → (i ≡ place_of b r.account → ⊥) → row_at (step_of b r).book i ≡ row_at b i
  others-keep-their-rows = others-stay b r

  -- No record changes an account's sort, or whose client it is.
  pub sort-and-TM-stay : (i : ℕ) → i < b.count
      → ((row_at (step_of b r).book i).sort ≡ (row_at b i).sort) × ((row_at (step_of b r).book i).tm ≡ (row_at b i).tm)
  sort-and-TM-stay = sort-stays b r

  -- A retired account's row isn't changed by any record.
  pub retired-keeps-its-row : (i : ℕ) → i < b.count → (row_at b i).live ≡ false → row_at (step_of b r).book i ≡ row_at b i
  retired-keeps-its-row = retired-stays b r

  -- K11, "Numbers are kept with their rows": no record changes the number of a row that was there.
  pub numbers-stay-with-their-rows : (i : ℕ) → i < b.count → number_at (step_of b r).book i ≡ number_at b i
  numbers-stay-with-their-rows = numbers_stay b r

  -- An opening gives the next number, which goes up by one, ..
  pub opening-gives-the-next : (n : ℕ) → (step_of b r).answer.outcome ≡ Opened n → (n ≡ b.next) × ((step_of b r).book.next ≡ n + 1)
  opening-gives-the-next = opened-next b r

  -- .. and it changes the row of no account that was there, the one named included.
  pub an-opening-keeps-every-row : (n : ℕ) → (step_of b r).answer.outcome ≡ Opened n → (i : ℕ) → i < b.count → row_at (step_of b r).book i ≡ row_at b i
  an-opening-keeps-every-row = opened-keeps b r

-- No account goes away: whatever records follow, neither the number of rows nor the next number ever falls. (What an archiving moves: Archive.)
pub no-account-goes-away : (b : Book) (rs : List Record) → (b.count ≤ (after_all b rs).count) × (b.next ≤ (after_all b rs).next)
unfolding after_all
no-account-goes-away b [] = (omega arith, omega arith)
no-account-goes-away b (r ∷ rs) =
    let one = count-stays b r in
    let rest = no-account-goes-away (step_of b r).book rs in
    (omega (arith, one.0, rest.0), omega (arith, one.1, rest.1))

-- Retired is for good: whatever records follow, a retired account's row stays as it was.
pub retired-for-good : (b : Book) (rs : List Record) (i : ℕ) → i < b.count → (row_at b i).live ≡ false → row_at (after_all b rs) i ≡ row_at b i
unfolding after_all
retired-for-good b [] i l dead = refl
retired-for-good b (r ∷ rs) i l dead =
    let e = retired-stays b r i l dead in
    retired-for-good (step_of b r).book rs i (omega (arith, (count-stays b r).0)) (ap (λ x. x.live) e ∙ dead) ∙ e

-- So no number is given twice: whatever records follow an opening, a later opening gives a higher number.
pub no-number-twice : (b : Book) (r : Record) (n : ℕ) → (step_of b r).answer.outcome ≡ Opened n → (rs : List Record) (q : Record) (m : ℕ)
    → (step_of (after_all (step_of b r).book rs) q).answer.outcome ≡ Opened m → n < m
no-number-twice b r n e rs q m f =
    omega (arith, (opened-next b r n e).1, (no-account-goes-away (step_of b r).book rs).1, (opened-next (after_all (step_of b r).book rs) q m f).0)

-- Carrying out a piece of the day file: both counts are of the answers to its records, one answer for each record read, ..
pub counts-are-of-the-answers : (b : Book) (piece : List ℕ) (most : ℕ) → sound_b b ≡ true
    → ((ran_of b piece most).read ≡ length (answers_of piece most b 0)) × ((ran_of b piece most).done ≡ carried_of (answers_of piece most b 0))
counts-are-of-the-answers = ran-counts

-- .. and each record, not the first alone, is carried out as `next_of` does it: the run goes on with that call's book and place, and
-- counts its answer.
pub each-record-is-a-step : (piece : List ℕ) (most : ℕ) (b : Book) (place read done : ℕ) (r : Record) (next : ℕ) → sound_b b ≡ true
    → found_at piece place ≡ Whole r next
    → run_of piece (suc most) b place read done
    ≡ run_of piece most (next_of b piece place).book (next_of b piece place).place (read + 1) (done + carried_in (next_of b piece place).answer.outcome)
each-record-is-a-step piece most b place read done r next e f = run-by-next piece most b place read done r next (sound→ b e) f

module _ (b : Book) (losses room : List ℕ) (carried : close_out_refusal b losses room ≡ 0) where
  -- A close-out that is carried out puts the four amounts laid down into the room, account by account, and nothing else, ..
  pub the-amounts-laid-down : room_of b losses room ≡ rows_to (four (view b) (loss_at losses)) b.count
  the-amounts-laid-down = carried-room b losses room carried

  -- .. and each account's four add up to its loss.
  pub add-up-to-the-loss : (i : ℕ) → i < b.count
      → cell_of b losses room i 0 + cell_of b losses room i 1 + cell_of b losses room i 2 + cell_of b losses room i 3 ≡ loss_at losses i
  add-up-to-the-loss = carried-adds b losses room carried

module _ (v : View) (loss : ℕ → ℕ) where
  -- The second amount (from the TM's) of a TM, a CP and the CM is 0.
  pub no-TM-above : (i : ℕ) → (v.sort i ≡ 1) ⊎ ((v.sort i ≡ 3) ⊎ (v.sort i ≡ 0)) → tm_column v loss i ≡ 0
  no-TM-above i = ⊎_elim (λ e. no-TM v loss i (rw e)) (⊎_elim (λ e. no-TM v loss i (rw e)) (λ e. no-TM v loss i (rw e)))

  -- The CM's third amount (from the CM's) is 0: what it pays for itself stands in its first.
  pub CM's-third-is-0 : cm_column v loss 0 ≡ 0
  CM's-third-is-0 = CM's-third v loss

-- What was written reads back, at any place and whatever follows.
pub reads-back : (r : Record) → fault_of r ≡ 0 → WordsFit r → (before after : List ℕ)
    → read_at (before ++ (written_of r ++ after)) (length before) ≡ Good r (length before + length (written_of r))
reads-back = read-written

-- A day file reads back as the records it was written from, ..
pub day-file-reads-back : (rs : List Record) → AllGood rs → Reads (file_of rs) 0 rs
day-file-reads-back = file-reads

-- .. and no bytes read as two different lists of records.
pub and-to-no-others : (s : List ℕ) (at : ℕ) (rs qs : List Record) → Reads s at rs → Reads s at qs → rs ≡ qs
and-to-no-others s at rs qs p q = reads-once p q

-- What a call of the writer wrote reads back from the start of its room.
pub writer's-room-reads-back : (r : Record) (room : List ℕ) (n : ℕ) → WordsFit r → wrote_of r room ≡ Written n → read_at (room_after r room) 0 ≡ Good r n
writer's-room-reads-back = room-reads

-- Each record has one written form: bytes that read as a good record are its written form, ..
pub one-written-form : (s : List ℕ) (at : ℕ) (r : Record) (next : ℕ) → Bytes s → read_at s at ≡ Good r next → take (next - at) (drop at s) ≡ written_of r
one-written-form s at r next y e = written_read s at e y

-- .. and one written form is of one record.
pub of-one-record : (r q : Record) → fault_of r ≡ 0 → WordsFit r → fault_of q ≡ 0 → WordsFit q → written_of r ≡ written_of q → r ≡ q
of-one-record = written_once

-- So has a day: bytes that read as good records up to their end are those records' day file.
pub one-day-file : (s : List ℕ) (rs : List Record) → Bytes s → Reads s 0 rs → s ≡ file_of rs
one-day-file s rs y p = read-file y p
