-- What a code's function answers is the record's change on the book of the old order.
use Rattle.std.proofs.Common.{◌≡◌, ℕ, zero, suc, ◌+◌, ◌<◌, ◌≤◌, Bool, true, false, not, ◌&&◌, eqb, ltb, leb, ◌⊎◌, List, [], ◌∷◌, ◌++◌, get_or, set, sym, refl, ap, ◌∙◌, inl, inr, arith, ltb-true, le-ltb, eq-eqb, ne_eqb, le-leb, leb-true}
use native.Mathlib.Decide.{ℕ_discrete, dec_lt}
use borrow.Author.Tests.{lt-leb, not-false}
use Rattle.sums.specs.Choice.{pick, unless_refused}
use Rattle.sums.specs.Sum.{any}
use Rattle.sums.specs.Table.{◌when◌, first}
use Rattle.sums.proofs.Choices.{refused-by, and_split, and-join, pick_yes, pick_no}
use Rattle.sums.proofs.Tables.{first_some, first-none, first-fails, first-clear}
use Rattle.rows.specs.declared.Row.{Row}
use Rattle.rows.specs.declared.Book.{Book}
use Rattle.rows.specs.Rows.{row_at, collateral, account_of, view, opened_row, has_live_client, is_live_client_of}
use Rattle.rows.specs.Inner.{Slot}
use Rattle.rows.specs.DeemedUnder.{DeemedUnder}
use Rattle.book.specs.Facts.{SoundRows}
use Rattle.book.proofs.LiveClients.{no-TM-none-live}
use Rattle.book.proofs.Settled.{sound-under}
use Rattle.book.proofs.SoundRanges.{sound-ranges}
use Rattle.book.proofs.UnderMost.{under-most}
use Rattle.dayfile.specs.declared.Record.{Record}
use Rattle.dayfile.specs.Records.{faults, fault_of, known_code}
use Rattle.dayfile.proofs.Good.{Good, no-fault-good, three-numbered}
use Rattle.rules.specs.declared.Beside.{Beside}
use Rattle.rules.specs.declared.Change.{Change}
use Rattle.rules.specs.declared.Change.TheVariants.{Refuse, Put, Open}
use Rattle.rules.specs.Refusals.{row_left, is_opening, named_row, beside_of, before8, from8, refusal_of}
use Rattle.rules.specs.Effects.{amended, effect_of, change_of, changed_by, next_serial}
use Rattle.rules.specs.Inner.{AmountsIn, beside_by}
use Rattle.rules.proofs.Faults.{amounts-in}
use Rattle.rules.proofs.WhatIsBeside.{IsBeside, refusal_by, beside-is, refusal-beside}
use Rattle.rules.proofs.SoundChange.{change-rows}
use Rattle.rules.proofs.Moves.{beside-by-deemed}
use Rattle.table.specs.declared.Marks.{Marks}
use Rattle.table.specs.Words.{word_at, row_in, book_from}
use Rattle.table.proofs.Gathered.{row-in}
use Rattle.table.specs.Inner.{Anew}
use Rattle.steps.specs.Steps.{Ready, Decided, stayed, went_on, gone_with}
use Rattle.codes.specs.Own.{early_number, alive_in, client_in, has_live_client_in, deemed_under_in, beside_in, Held, Answered, Opens, numbers_with}
use Rattle.codes.proofs.Lines.{open_own, next-aside}

-- ---- which codes open
which-opening : (n : ℕ) → (leb 1 n && leb n 3) ≡ true → (n ≡ 1) ⊎ ((n ≡ 2) ⊎ (n ≡ 3))
which-opening n e = by (ℕ_discrete n 1) (ℕ_discrete n 2)
  where
    by : Dec (n ≡ 1) → Dec (n ≡ 2) → (n ≡ 1) ⊎ ((n ≡ 2) ⊎ (n ≡ 3))
    by (yes q) s = inl q
    by (no q) (yes s) = inr (inl s)
    by (no q) (no s) = inr (inr (omega (arith, leb-true 1 n (and_split (leb 1 n) (leb n 3) e).0, leb-true n 3 (and_split (leb 1 n) (leb n 3) e).1)))

serial-picked : (count serial : ℕ) (m : Marks) (w : List ℕ) (modes : List Bool) (needs : List ℕ) (next : ℕ) (numbers : List ℕ) (t : Bool)
    → book_from count (pick t serial (next_serial serial)) m w modes needs next numbers ≡ pick t (book_from count serial m w modes needs next numbers) (book_from count (next_serial serial) m w modes needs next numbers)
unfolding pick
serial-picked count serial m w modes needs next numbers true = refl
serial-picked count serial m w modes needs next numbers false = refl

pub opening-not : (r : Record) → 3 < r.code → is_opening r ≡ false
opening-not r l = rw (lt-leb r.code 3 l) (and_none (leb 1 r.code))
  where
    and_none : (t : Bool) → (t && false) ≡ false
    and_none true = refl
    and_none false = refl

module _ (count serial : ℕ) (m : Marks) (w : List ℕ) (modes : List Bool) (needs : List ℕ) (next : ℕ) (numbers : List ℕ) (h : Ready count serial m w modes needs next numbers) (r : Record) where
  abbrev b : Book
  b = book_from count serial m w modes needs next numbers

  -- what is deemed under each account, by the kept needs
  abbrev under : List ℕ
  under = deemed_under_in w needs

  deemed-under : DeemedUnder (view b) under
  deemed-under = sound-under b h.sound (word_at w 9) (λ i l. sym (ap (λ x. x.margin) (row-in m w i l)))

  abbrev i : ℕ
  i = r.account

  -- the mode before the record
  abbrev on : Bool
  on = get_or modes r.account false

  abbrev alive : Bool
  alive = alive_in m.live count r.account

  -- ---- the lines before 8
  alive-is : alive_in m.live count r.account ≡ (ltb r.account count && (named_row b r).live)
  alive-is = by (dec_lt r.account count)
    where
      by : Dec (r.account < count) → alive_in m.live count r.account ≡ (ltb r.account count && (named_row b r).live)
      by (yes l) = ap (λ x. ltb r.account count && x.live) (sym (row-in m w r.account (omega (arith, h.sound.most))))
      by (no l) = rw (le-ltb r.account count (omega arith))

  table_is : (beside : Beside) → IsBeside b r beside → refusal_of b r ≡ first (before8 alive serial r ++ from8 (named_row b r) count next beside r)
  unfolding refusal_by
  table_is beside sw = rw alive-is (sym (refusal-beside b h.sound r beside sw))

  module _ (k : ℕ) (ek : k ≡ early_number alive serial r) where
    pub early-is : (k ≡ 0 → ⊥) → refusal_of b r ≡ k
    unfolding early_number
    early-is ne =
        table_is (beside_of b r) (beside-is b r)
        ∙ first_some (before8 alive serial r) (from8 (named_row b r) count next (beside_of b r) r) (λ z. ne (ek ∙ z)) ∙ sym ek

    module _ (z : k ≡ 0) where
      good-record : Good r
      unfolding early_number fault_of
      good-record = no-fault-good r (first-clear (faults r) _ (first-fails 3 _ _ (omega arith) (sym ek ∙ z)).1)

      given : r.account < count
      unfolding early_number
      given =
          let a = first-fails 3 _ _ (omega arith) (sym ek ∙ z) in
          let t = first-fails 7 _ [] (omega arith) (sym (first-none (faults r) ((7 when not alive) ∷ []) (three-numbered r) (first-clear (faults r) _ a.1)) ∙ a.1) in
          ltb-true _ _ (and_split _ _ (not-false _ t.0)).0

      low : r.account < 256
      low = omega (arith, given, h.sound.most)

      past : (beside : Beside) → IsBeside b r beside → refusal_of b r ≡ first (from8 (named_row b r) count next beside r)
      unfolding early_number
      past beside sw =
          table_is beside sw
          ∙ first-none (before8 alive serial r) (from8 (named_row b r) count next beside r) (omega arith, (omega arith, (omega arith, (omega arith, (omega arith, tt))))) (sym ek ∙ z)

      row_is : named_row b r ≡ row_in m w r.account
      row_is = row-in m w r.account low

      -- its TM has a place
      tm-low : get_or m.tm r.account 0 < 256
      tm-low = by (ℕ_discrete (named_row b r).sort 2)
        where
          its : (named_row b r).tm ≡ get_or m.tm r.account 0
          its = ap (λ x. x.tm) row_is

          by : Dec ((named_row b r).sort ≡ 2) → get_or m.tm r.account 0 < 256
          by (yes c) = omega (arith, its, (h.sound.shaped.tms r.account given c).0, low)
          by (no c) = omega (arith, its, h.sound.no-tm r.account given c)

      pub ready-holds : Held m w under r.account
      ready-holds = record {
        size = h.size;
        inside = low;
        tm = tm-low;
        ranges = λ j l. rw (row-in m w j l) at (sound-ranges b h.sound j);
        most = under-most b h.sound under deemed-under;
      }

      -- clients are looked for in three columns
      clients-in : any count (client_in m r.account) ≡ has_live_client b r.account
      unfolding has_live_client any
      clients-in = upto count h.sound.most
        where
          upto : (j : ℕ) → j ≤ 256 → any j (client_in m r.account) ≡ any j (is_live_client_of b r.account)
          upto zero q = refl
          upto (suc j) q = rw (upto j (omega arith), row-in m w j (omega arith))

      live-client-is : has_live_client_in m count r.account ≡ has_live_client b r.account
      unfolding has_live_client_in
      live-client-is = by (ℕ_discrete (get_or m.sort r.account 0) 1)
        where
          by : Dec (get_or m.sort r.account 0 ≡ 1) → pick (eqb (get_or m.sort r.account 0) 1) (any count (client_in m r.account)) false ≡ has_live_client b r.account
          by (yes e) = pick_yes _ _ _ (eq-eqb _ 1 e) ∙ clients-in
          by (no e) = pick_no _ _ _ (ne_eqb _ 1 e) ∙ sym (no-TM-none-live b r.account h.sound (λ q. e (sym (ap (λ x. x.sort) row_is) ∙ q)))

      abbrev p : ℕ
      p = get_or m.tm r.account 0

      slot_is : Slot (named_row b r).tm p
      slot_is = record { inside = tm-low; named = λ o. sym (ap (λ x. x.tm) row_is) }

      beside-by : (row its top : Row) → named_row b r ≡ row → row_at b p ≡ its → row_at b 0 ≡ top
          → IsBeside b r (beside_by on (collateral (row_left row r)) (account_of row) (get_or under r.account 0) (account_of its) (get_or under p 0) (account_of top) (get_or under 0 0) (has_live_client_in m count r.account) r)
      beside-by row its top er ei et =
          rw (← er, ← ei, ← et) (beside-by-deemed b h.sound under deemed-under r p slot_is (has_live_client_in m count r.account) (λ e. live-client-is))

      -- the table past 7, by the words
      pub decided : refusal_of b r ≡ first (from8 (row_in m w r.account) count next (beside_in count m w under on r) r)
      decided =
          past (beside_in count m w under on r) (beside-by _ _ _ row_is (row-in m w p tm-low) (row-in m w 0 (omega arith)))
          ∙ ap (λ x. first (from8 x count next (beside_in count m w under on r) r)) row_is

      pub code-opens : r.code ≤ 3 → is_opening r ≡ true
      code-opens l = and-join (and_split (leb 1 r.code) (leb r.code 13) good-record.known).0 (le-leb r.code 3 l)

      pub ready-known : known_code r.code ≡ true
      ready-known = good-record.known

      pub ready-amounts : AmountsIn r
      ready-amounts = amounts-in r good-record

  -- ---- the record's change
  change-is : (k : ℕ) → refusal_of b r ≡ k → change_of b r ≡ unless_refused k (effect_of (named_row b r) r.account r) Refuse
  unfolding change_of
  change-is k e = ap (λ q. unless_refused q (effect_of (named_row b r) r.account r) Refuse) e

  -- the rows stay sound
  after : (c : Change) → change_of b r ≡ c → SoundRows (changed_by b r.account c)
  after c e = rw e at (change-rows b r h.sound)

  pub refused-at : (k : ℕ) (o : Bool) → refusal_of b r ≡ k → (k ≡ 0 → ⊥) → Decided count serial m w modes needs next numbers r (gone_with k o count serial next) m w numbers
  refused-at k o er ne = rw (pick_no (eqb k 0) (went_on o count serial next) (stayed k count serial next) (ne_eqb k 0 ne)) (record {
    refusal = rw e;
    given = rw e;
    carried = rw e;
    book = rw e same;
    size = h.size;
    rows = rw same (after (Refuse k) e);
  })
    where
      e : change_of b r ≡ Refuse k
      e = change-is k er ∙ sym (refused-by k _ Refuse ne)

      same : book_from count (pick (leb k 3) serial (next_serial serial)) m w modes needs next numbers ≡ changed_by b r.account (Refuse k)
      same = serial-picked count serial m w modes needs next numbers (leb k 3)

  put-at : (x : Row) (n : Marks) (u : List ℕ) → change_of b r ≡ Put x → Anew m w r.account x n u → Decided count serial m w modes needs next numbers r (went_on false count serial next) n u numbers
  unfolding pick
  put-at x n u e a =
      let same = ap {B = Book} (λ q. record { count = count; serial = next_serial serial; rows = q; modes = modes; needs = needs; next = next; numbers = numbers }) a.rows in
      record { refusal = rw e; given = rw e; carried = rw e; book = rw e same; size = a.size; rows = rw same (after (Put x) e) }

  open_at : (x : Row) (n : Marks) (u : List ℕ) → change_of b r ≡ Open x → Anew m w count x n u → Decided count serial m w modes needs next numbers r (went_on true count serial next) n u (set numbers count next)
  unfolding pick
  open_at x n u e a =
      let same = ap {B = Book} (λ q. record { count = count + 1; serial = next_serial serial; rows = q; modes = modes; needs = needs; next = next + 1; numbers = set numbers count next }) a.rows in
      record { refusal = rw e; given = rw e; carried = rw e; book = rw e same; size = a.size; rows = rw same (after (Open x) e) }

  -- ---- what the functions answer
  module _ (k : ℕ) (ek : k ≡ early_number alive serial r) (z : k ≡ 0) where
    pub amends-at : is_opening r ≡ false → (q : ℕ) (n : Marks) (u : List ℕ) → Answered count m w under on r q n u
        → Decided count serial m w modes needs next numbers r (gone_with q (is_opening r) count serial next) n u numbers
    amends-at o q n u a = by (ℕ_discrete q 0)
      where
        number : refusal_of b r ≡ q
        number = decided k ek z ∙ next-aside (row_in m w r.account) count 0 (beside_in count m w under on r) r o next ∙ sym a.number

        by : Dec (q ≡ 0) → Decided count serial m w modes needs next numbers r (gone_with q (is_opening r) count serial next) n u numbers
        by (yes e) =
            let put : change_of b r ≡ Put (amended (row_in m w r.account) r) =
            change-is 0 (number ∙ e) ∙ pick_no (is_opening r) _ _ o ∙ ap (λ x. Put (amended x r)) (row_is k ek z) in
            rw (pick_yes (eqb q 0) (went_on (is_opening r) count serial next) (stayed q count serial next) (eq-eqb q 0 e), o)
            (put-at _ n u put (a.puts e))
        by (no e) = let s = a.stays e in rw (s.0, s.1) (refused-at q (is_opening r) number e)

    pub opens_at : is_opening r ≡ true → (q : ℕ) (n : Marks) (u numbers' : List ℕ) → Opens m w count next r.code r.account q n u
        → numbers' ≡ numbers_with q count next numbers → Decided count serial m w modes needs next numbers r (gone_with q (is_opening r) count serial next) n u numbers'
    opens_at o q n u numbers' a put = rw put (by (ℕ_discrete q 0))
      where
        number : refusal_of b r ≡ q
        number = decided k ek z ∙ open_own (row_in m w r.account) count next (beside_in count m w under on r) r (which-opening r.code o) ∙ sym a.number

        by : Dec (q ≡ 0) → Decided count serial m w modes needs next numbers r (gone_with q (is_opening r) count serial next) n u (numbers_with q count next numbers)
        by (yes e) =
            let made : change_of b r ≡ Open (opened_row r.code r.account) = change-is 0 (number ∙ e) ∙ pick_yes (is_opening r) _ _ o in
            rw (pick_yes (eqb q 0) (went_on (is_opening r) count serial next) (stayed q count serial next) (eq-eqb q 0 e), o, pick_yes (eqb q 0) (set numbers count next) numbers (eq-eqb q 0 e))
            (open_at _ n u made (a.puts e))
        by (no e) =
            let s = a.stays e in
            rw (s.0, s.1, pick_no (eqb q 0) (set numbers count next) numbers (ne_eqb q 0 e)) (refused-at q (is_opening r) number e)

-- an opening that is carried out has a row left, and a number
pub opening-has-room : {count serial next : ℕ} {m n : Marks} {w u needs numbers numbers' : List ℕ} {modes : List Bool} {r : Record} (k : ℕ)
    → Decided count serial m w modes needs next numbers r (gone_with k (is_opening r) count serial next) n u numbers' → k ≡ 0 → is_opening r ≡ true → (count < 256) × (next < 65536)
unfolding pick
opening-has-room {count} {serial} {next} {m} {n} {w} {u} {needs} {numbers} {numbers'} {modes} {r} k d e o =
    let g : Decided count serial m w modes needs next numbers r (went_on true count serial next) n u numbers' = rw (e, o) at d in
    (omega (arith, g.rows.most), omega (arith, g.rows.numbered.last))
