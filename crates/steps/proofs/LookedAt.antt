-- A record decided on the words, K3's kept needs and K2's look after it are together what the record does to the book.
use Rattle.std.proofs.Common.{◌≡◌, ℕ, ◌+◌, ◌*◌, ◌<◌, ◌≤◌, Bool, true, false, ◌&&◌, ◌||◌, eqb, leb, ◌⊎◌, List, length, get_or, set, sym, refl, ap, ◌∙◌, subst, inl, inr, arith, get_or-set_other, eqb-true, leb-false, leb-true}
use mathlib.Core.Bool.{and-true, and-false}
use native.Mathlib.Decide.{ℕ_discrete}
use Rattle.sums.specs.Choice.{pick}
use Rattle.sums.proofs.Choices.{test-clash, or_split, or-fails, and_split}
use Rattle.rows.specs.declared.Row.{Row}
use Rattle.rows.specs.declared.Account.{Account}
use Rattle.rows.specs.declared.Book.{Book}
use Rattle.rows.specs.Rows.{row_at, places, no_row, collateral, opened_row, account_of, view, with_row, with_new, with_modes, with_needs}
use Rattle.rows.specs.DeemedUnder.{DeemedUnder, need_to_keep}
use Rattle.rows.specs.Modes.{mode_after, look_at, looked}
use Rattle.rows.specs.KeptNeeds.{needs_afresh}
use Rattle.rows.specs.Inner.{Slot, in_tenths}
use Rattle.rows.proofs.Looks.{looked-size, look_twice, look-by}
use Rattle.rows.proofs.KeptNeeds.{afresh-size, afresh-is}
use Rattle.rows.proofs.RowPut.{row_same, opened-new}
use Rattle.table.specs.declared.Marks.{Marks}
use Rattle.table.specs.Words.{word_at, book_from}
use Rattle.table.proofs.Gathered.{row-in, rows-length}
use Rattle.book.specs.Facts.{SoundRows}
use Rattle.book.proofs.OneRow.{at_all}
use Rattle.book.proofs.Settled.{sound-rows, sound-under}
use Rattle.book.proofs.UnderMost.{under-most}
use Rattle.dayfile.specs.declared.Record.{Record}
use Rattle.dayfile.specs.Records.{known_code}
use Rattle.rules.specs.declared.Change.{Change}
use Rattle.rules.specs.declared.Change.TheVariants.{Refuse, Put, Open}
use Rattle.rules.specs.Refusals.{is_opening, named_row}
use Rattle.rules.specs.Effects.{amended, change_of, moved_on, changed_by, book_after}
use Rattle.rules.proofs.Deciding.{put-passes, made-put, made-open, open-below, refuse-some, only-openings, never-openings}
use Rattle.rules.proofs.Codes.{Code, open_tm, open_client, open_cp, receive, hand_back, allocate, release, pledge, unpledge, margin, retire, set_pledged, set_margin, known-code-cases}
use Rattle.rules.proofs.Amending.{by-receive, by-hand-back, by-retire}
use Rattle.rules.proofs.Moves.{put-deemed, put-looks, put-needs, open-deemed, open-looks, open-needs}
use Rattle.rules.proofs.SoundChange.{change-sound}
use Rattle.steps.specs.declared.At.{At}
use Rattle.steps.specs.declared.Gone.{Gone}
use Rattle.codes.specs.declared.settling.DeemedUnderAfter.{DeemedUnderAfter}
use Rattle.steps.specs.declared.Lent.{Lent}
use Rattle.steps.specs.Steps.{Ready, Decided, carried_shown, refusal_shown, modes_in, book_at, at_after, Going, Stepped}
use Rattle.codes.specs.Own.{account_in, deemed_under_at, deemed_under_in, deemed_under_after}
use Rattle.steps.specs.Looks.{Placed, Past, PastOf, look_in, excess_after, excess_since, looked_since, deemed_under_since, needed_since}
use Rattle.steps.specs.Dues.{Keeps}
use Rattle.steps.proofs.Placing.{sound-placed}
use Rattle.codes.proofs.Made.{under-is}

-- a row put anew whose figures are the same changes nothing that needs and uses see
same-figures : (b : Book) (k : ℕ) (x : Row) → k < places b → account_of x ≡ account_of (row_at b k) → view (with_row b k x) ≡ view b
same-figures b k x l e = λ j. record {
  count = b.count;
  sort = λ i. (alike i j).sort;
  tm = λ i. (alike i j).tm;
  collateral = λ i. (alike i j).collateral;
  margin = λ i. (alike i j).margin;
}
  where
    alike : (i : ℕ) → account_of (row_at (with_row b k x) i) ≡ account_of (row_at b i)
    alike i = at_all (λ j y z. account_of y ≡ account_of z) b k x l e (λ j. refl) i

-- receive, hand back and retire move no figure
still : (row : Row) (r : Record) → is_opening r ≡ false → known_code r.code ≡ true → (leb r.code 5 || eqb r.code 11) ≡ true → account_of (amended row r) ≡ account_of row
still row r o k l = by (known-code-cases r.code k)
  where
    none : (n : ℕ) → 5 < n → (n ≡ 11 → ⊥) → r.code ≡ n → account_of (amended row r) ≡ account_of row
    none n p q e = absurd (by' (or_split (leb r.code 5) (eqb r.code 11) l))
      where
        by' : (leb r.code 5 ≡ true) ⊎ (eqb r.code 11 ≡ true) → ⊥
        by' (inl h) = omega (arith, leb-true r.code 5 h)
        by' (inr h) = q (sym e ∙ eqb-true r.code 11 h)

    by : Code r.code → account_of (amended row r) ≡ account_of row
    by (open_tm e) = test-clash (rw e) o
    by (open_client e) = test-clash (rw e) o
    by (open_cp e) = test-clash (rw e) o
    by (receive e) = ap account_of (by-receive row r e)
    by (hand_back e) = ap account_of (by-hand-back row r e)
    by (allocate e) = none 6 (omega arith) (λ z. omega arith) e
    by (release e) = none 7 (omega arith) (λ z. omega arith) e
    by (pledge e) = none 8 (omega arith) (λ z. omega arith) e
    by (unpledge e) = none 9 (omega arith) (λ z. omega arith) e
    by (margin e) = none 10 (omega arith) (λ z. omega arith) e
    by (retire e) = ap account_of (by-retire row r e)
    by (set_pledged e) = none 12 (omega arith) (λ z. omega arith) e
    by (set_margin e) = none 13 (omega arith) (λ z. omega arith) e

-- an account just opened has no collateral, as its place had none
opened-worth : (b : Book) (y : Row) {c a : ℕ} → y ≡ opened_row c a → SoundRows b → b.count < 256 → (j : ℕ) → collateral (row_at (with_new b y) j) ≡ collateral (row_at b j)
opened-worth b y e s l j = by (ℕ_discrete j b.count)
  where
    by : Dec (j ≡ b.count) → collateral (row_at (with_new b y) j) ≡ collateral (row_at b j)
    by (yes q) = rw q (ap collateral (opened-new b y (omega (arith, s.table)) ∙ e) ∙ sym (ap collateral (s.blank b.count (omega arith))))
    by (no q) = ap collateral (get_or-set_other b.rows b.count j y no_row q)

module _ (at : At) (was : List Bool) (lent : Lent) (g : Going at was lent) (r : Record) where
  abbrev m : Marks
  m = lent.marks

  abbrev w : List ℕ
  w = lent.words

  abbrev kept : List ℕ
  kept = lent.kept

  abbrev modes : List Bool
  modes = lent.modes

  abbrev needs : List ℕ
  needs = lent.needs

  abbrev numbers : List ℕ
  numbers = lent.numbers

  abbrev excess : List ℕ
  excess = lent.excess

  abbrev before : List Bool
  before = modes_in at.waiting was modes

  -- the book
  abbrev b : Book
  b = book_at at m w was modes needs numbers

  pub many-modes : length modes ≡ 256
  many-modes = ap length g.looks ∙ looked-size (view b) before

  pub going-ready : Ready at.count at.serial m w before needs at.next numbers
  going-ready = record { size = g.size; sound = g.sound }

  pub places-now : Placed m w
  places-now = sound-placed at.count at.serial m w before needs at.next numbers g.size (sound-rows b g.sound)

  -- what is deemed under each account, by the kept needs
  pub under : List ℕ
  under = deemed_under_in w needs

  pub deemed-under : DeemedUnder (view b) under
  unfolding under
  deemed-under = sound-under b g.sound (word_at w 9) (λ i l. sym (ap (λ x. x.margin) (row-in m w i l)))

  under-in : (j : ℕ) → j < 256 → deemed_under_at w needs j ≡ get_or under j 0
  unfolding under
  under-in j l = sym (under-is w needs j l)

  pub under-small : (j : ℕ) → j < 256 → deemed_under_at w needs j ≤ 25_600_000_000_000_000
  under-small j l = omega (arith, under-in j l, under-most b g.sound under deemed-under j)

  -- the kept needs are those worked out afresh
  fresh-now : needs ≡ needs_afresh (view b)
  fresh-now = afresh-is (view b) needs g.wide g.sound.kept

  -- what was decided
  module _ (x : Gone) (n : Marks) (u numbers' : List ℕ) (d : Decided at.count at.serial m w before needs at.next numbers r x n u numbers') where
    abbrev after : Book
    after = book_from x.count x.serial n u before needs x.next numbers'

    -- the arrays after it, with these beside the words
    abbrev to : List ℕ → List Bool → List ℕ → List ℕ → Lent
    to kept' modes' needs' excess' = record { marks = n; words = u; kept = kept'; modes = modes'; needs = needs'; numbers = numbers'; excess = excess' }

    pub places-after : Placed n u
    places-after = sound-placed x.count x.serial n u before needs x.next numbers' d.size d.rows

    -- collaterals that are the same are kept
    keeps-seen : ((j : ℕ) → collateral (row_at after j) ≡ collateral (row_at b j)) → Keeps u kept
    keeps-seen h = record {
      size = g.keeps.size;
      each = λ j l. g.keeps.each j l ∙ sym (ap collateral (row-in m w j l)) ∙ sym (h j) ∙ ap collateral (row-in n u j l);
    }

    module _ (c : Change) (e : change_of b r ≡ c) where
      pub is-after : after ≡ changed_by b r.account c
      is-after = d.book ∙ ap (changed_by b r.account) e

      -- with the modes, the kept needs and the list of what is in excess after it
      module _ (kept' : List ℕ) (keeps : Keeps u kept') (modes' : List Bool) (needs' excess' : List ℕ) (is-book : book_at (at_after at x) n u was modes' needs' numbers' ≡ book_after b r.account c) (wide : length needs' ≡ 256)
          (in-excess : DeemedUnder (in_tenths (view after)) excess') (looks : modes' ≡ looked (view after) (modes_in (at_after at x).waiting was modes')) where
        steps-to : Stepped at was lent r x (to kept' modes' needs' excess')
        steps-to = record {
          refusal = d.refusal;
          given = d.given;
          carried = d.carried;
          book = is-book ∙ ap (book_after b r.account) (sym e);
          ready = record {
            size = d.size;
            many = g.many;
            wide = wide;
            keeps = keeps;
            sound = rw is-book (rw e at (change-sound b r g.sound));
            in-excess = in-excess;
            looks = looks;
          };
        }

      -- carried out: the modes are those that a look leaves, and the needs those worked out afresh
      went : carried_shown c ≡ 1
          → book_after b r.account c ≡ with_needs (with_modes (changed_by b r.account c) (looked (view (changed_by b r.account c)) before)) (needs_afresh (view (changed_by b r.account c)))
          → (kept' : List ℕ) → Keeps u kept' → (modes' : List Bool) (needs' excess' : List ℕ) → modes' ≡ looked (view after) before → needs' ≡ needs_afresh (view after) → DeemedUnder (in_tenths (view after)) excess'
          → Stepped at was lent r x (to kept' modes' needs' excess')
      unfolding pick
      went one after_is kept' keeps modes' needs' excess' look fresh in-excess =
          let done : x.carried ≡ 1 = d.carried ∙ ap carried_shown e ∙ one in
          let its : modes_in (at_after at x).waiting was modes' ≡ modes' =
          ap (λ t. modes_in t was modes') (ap (λ k. at.waiting && eqb k 0) done ∙ and-false at.waiting) in
          steps-to kept' keeps modes' needs' excess'
          (ap (λ l. with_needs (with_modes after l) needs') (its ∙ look) ∙ ap (with_needs (with_modes after (looked (view after) before))) fresh
          ∙ ap (λ q. with_needs (with_modes q (looked (view q) before)) (needs_afresh (view q))) is-after ∙ sym after_is)
          (ap length fresh ∙ afresh-size (view after))
          in-excess
          (look ∙ sym (look_twice (view after) before) ∙ ap (looked (view after)) (sym look ∙ sym its))

    -- refused: all stays
    refused : (k : ℕ) → change_of b r ≡ Refuse k → Stepped at was lent r x (to kept modes needs excess)
    unfolding pick
    refused k e =
        steps-to (Refuse k) e kept (keeps-seen (λ j. ap (λ v. v.collateral j) same_view)) modes needs excess
        (ap (with_modes after) its ∙ ap (λ q. with_modes q before) (is-after (Refuse k) e) ∙ with-modes-after (leb k 3))
        g.wide
        (subst (λ q. DeemedUnder (in_tenths q) excess) (sym same_view) g.in-excess)
        (g.looks ∙ ap (λ q. looked q before) (sym same_view) ∙ ap (looked (view after)) (sym its))
      where
        its : modes_in (at_after at x).waiting was modes ≡ before
        its = ap (λ t. modes_in t was modes) (ap (λ q. at.waiting && eqb q 0) (d.carried ∙ ap carried_shown e) ∙ and-true at.waiting)

        with-modes-after : (t : Bool) → with_modes (pick t b (moved_on b)) before ≡ pick t b (moved_on b)
        with-modes-after true = refl
        with-modes-after false = refl

        unmoved : (t : Bool) → view (pick t b (moved_on b)) ≡ view b
        unmoved true = refl
        unmoved false = refl

        same_view : view after ≡ view b
        same_view = ap view (is-after (Refuse k) e) ∙ unmoved (leb k 3)

    -- a code that moves no figure
    pub still-step : (leb r.code 5 || eqb r.code 11) ≡ true → Stepped at was lent r x (to kept modes needs excess)
    still-step l = by (change_of b r) refl
      where
        by : (c : Change) → change_of b r ≡ c → Stepped at was lent r x (to kept modes needs excess)
        by (Refuse k) e = refused k e
        by (Put y) e =
            let p = (put-passes b r y e).account in
            let stays : view after ≡ view b =
            ap view (is-after (Put y) e)
            ∙ same-figures b r.account y (omega (arith, rows-length m w, p, g.sound.most)) (ap account_of (made-put b r y e) ∙ still (named_row b r) r (never-openings b r y e) (put-passes b r y e).good.known l) in
            went (Put y) e refl refl kept (keeps-seen (λ j. ap (λ v. v.collateral j) stays)) modes needs excess (g.looks ∙ ap (λ q. looked q before) (sym stays)) (fresh-now ∙ ap needs_afresh (sym stays)) (subst (λ q. DeemedUnder (in_tenths q) excess) (sym stays) g.in-excess)
        by (Open y) e =
            let opens : view after ≡ view (changed_by b r.account (Open y)) = ap view (is-after (Open y) e) in
            went (Open y) e refl refl kept (keeps-seen (λ j. ap (λ q. collateral (row_at q j)) (is-after (Open y) e) ∙ opened-worth b y (made-open b r y e) (sound-rows b g.sound) (open-below b r y e) j)) modes needs excess (g.looks ∙ sym (open-looks b r y g.sound e before) ∙ ap (λ q. looked q before) (sym opens))
            (fresh-now ∙ sym (open-needs b r y g.sound e) ∙ ap needs_afresh (sym opens))
            (subst (λ q. DeemedUnder (in_tenths q) excess) (sym opens) (open-deemed b r y g.sound e true excess g.in-excess))

    -- refused, whatever its code
    pub refused-step : (x.refusal ≡ 0 → ⊥) → Stepped at was lent r x (to kept modes needs excess)
    refused-step ne = by (change_of b r) refl
      where
        by : (c : Change) → change_of b r ≡ c → Stepped at was lent r x (to kept modes needs excess)
        by (Refuse k) e = refused k e
        by (Put y) e = absurd (ne (d.refusal ∙ ap refusal_shown e))
        by (Open y) e = absurd (ne (d.refusal ∙ ap refusal_shown e))

    -- a code that may move figures, carried out, put a row anew
    pub put_only : {P : Type 0} → x.refusal ≡ 0 → (leb r.code 5 || eqb r.code 11) ≡ false → ((y : Row) → change_of b r ≡ Put y → P) → P
    put_only {P} z l f = by (change_of b r) refl
      where
        by : (c : Change) → change_of b r ≡ c → P
        by (Refuse k) e = absurd (refuse-some b r k e (sym (d.refusal ∙ ap refusal_shown e) ∙ z))
        by (Open y) e =
            let c = (and_split (leb 1 r.code) (leb r.code 3) (only-openings b r y e)).1 in
            absurd (omega (arith, leb-true r.code 3 c, leb-false r.code 5 (or-fails (leb r.code 5) (eqb r.code 11) l).0))
        by (Put y) e = f y e

    -- three places are brought up to date and looked at
    module _ (past : Past) (o : PastOf m w needs r.account past) (kept' : List ℕ) (keeps : Keeps u kept') where
      pub moved-step : (y : Row) → change_of b r ≡ Put y
          → Stepped at was lent r x
          (to kept' (looked_since n u excess before modes past) (needed_since n u needs past) (excess_since n u excess past))
      moved-step y e = went (Put y) e refl refl kept' keeps _ _ _ looks fresh in-excess
        where
          given : r.account < at.count
          given = (put-passes b r y e).account

          low : r.account < 256
          low = omega (arith, given, g.sound.most)

          its-place : past.place ≡ r.account
          its-place = o.named low

          own_is : past.own ≡ account_of (named_row b r)
          own_is = o.own ∙ ap (account_in m w) its-place ∙ sym (ap account_of (row-in m w r.account low))

          p-given : past.own.tm < at.count
          p-given = by-sort (ℕ_discrete (named_row b r).sort 2)
            where
              by-sort : Dec ((named_row b r).sort ≡ 2) → past.own.tm < at.count
              by-sort (yes q) = omega (arith, ap (λ a. a.tm) own_is, (g.sound.shaped.tms r.account given q).0, given)
              by-sort (no q) = omega (arith, ap (λ a. a.tm) own_is, g.sound.no-tm r.account given q, given)

          p-low : past.own.tm < 256
          p-low = omega (arith, p-given, g.sound.most)

          tm-is : (named_row b r).tm ≡ past.own.tm
          tm-is = sym (ap (λ a. a.tm) own_is)

          its-is : past.its ≡ account_of (row_at b (named_row b r).tm)
          its-is = o.its ∙ sym (ap account_of (row-in m w past.own.tm p-low)) ∙ ap (λ k. account_of (row_at b k)) (sym tm-is)

          slot : Slot (named_row b r).tm (named_row b r).tm
          slot = record { inside = omega (arith, tm-is, p-low); named = λ q. refl }

          view-is : view after ≡ view (with_row b r.account y)
          view-is = ap view (is-after (Put y) e)

          new_is : account_in n u past.place ≡ account_of y
          new_is =
              ap (account_in n u) its-place ∙ sym (ap account_of (row-in n u r.account low))
              ∙ ap (λ q. account_of (row_at q r.account)) (is-after (Put y) e)
              ∙ ap account_of (row_same b r.account y (omega (arith, rows-length m w, low)))

          list-is : excess_since n u excess past ≡ excess_after excess r.account (account_of (named_row b r)) (account_of y) (account_of (row_at b (named_row b r).tm))
          list-is =
              ap (λ i. excess_after excess i past.own (account_in n u past.place) past.its) its-place
              ∙ ap (λ a. excess_after excess r.account a (account_in n u past.place) past.its) own_is
              ∙ ap (λ a. excess_after excess r.account (account_of (named_row b r)) a past.its) new_is
              ∙ ap (excess_after excess r.account (account_of (named_row b r)) (account_of y)) its-is

          in-excess : DeemedUnder (in_tenths (view after)) (excess_since n u excess past)
          in-excess =
              subst (λ q. DeemedUnder (in_tenths q) (excess_since n u excess past)) (sym view-is)
              (subst (DeemedUnder (in_tenths (view (with_row b r.account y)))) (sym list-is) (put-deemed b r y g.sound e true excess g.in-excess (named_row b r).tm slot))

          -- a look by the words is a look at the view
          by-words : (j : ℕ) → j < at.count
              → look_in n u (excess_since n u excess past) j (get_or before j false) ≡ look_at (view (with_row b r.account y)) before j
          by-words j q =
              ap (λ (a : Account). (eqb j 0 || eqb a.sort 1) && mode_after (10 * a.margin + get_or (excess_since n u excess past) j 0) a.collateral (get_or before j false))
              (sym (ap account_of (row-in n u j (omega (arith, q, g.sound.most)))))
              ∙ look-by (view after) d.rows.shaped (excess_since n u excess past) in-excess before j (rw (ap (λ k. k.count) (is-after (Put y) e)) q)
              ∙ ap (λ v. look_at v before j) view-is

          looks : looked_since n u excess before modes past ≡ looked (view after) before
          looks =
              let w' = view (with_row b r.account y) in
              let excess' = excess_since n u excess past in
              let i = past.place in
              let k = past.own.tm in
              let own = look_in n u excess' i (get_or before i false) in
              let its = look_in n u excess' k (get_or before k false) in
              let top = look_in n u excess' 0 (get_or before 0 false) in
              ap (λ t. set (set (set modes i t) k its) 0 top) (by-words i (rw its-place given))
              ∙ ap (λ t. set (set (set modes i (look_at w' before i)) k t) 0 top) (by-words k p-given)
              ∙ ap (λ t. set (set (set modes i (look_at w' before i)) k (look_at w' before k)) 0 t) (by-words 0 g.sound.shaped.some)
              ∙ ap (λ l. set (set (set l i (look_at w' before i)) k (look_at w' before k)) 0 (look_at w' before 0)) g.looks
              ∙ ap (λ j. set (set (set (looked (view b) before) j (look_at w' before j)) k (look_at w' before k)) 0 (look_at w' before 0)) its-place
              ∙ ap (λ j. set (set (set (looked (view b) before) r.account (look_at w' before r.account)) j (look_at w' before j)) 0 (look_at w' before 0)) (sym tm-is)
              ∙ sym (put-looks b r y g.sound e before (named_row b r).tm slot)
              ∙ ap (λ q. looked q before) (sym view-is)

          -- the kept needs, in the law's words
          top-is : (account_in n u 0).margin ≡ (row_at (with_row b r.account y) 0).margin
          top-is = sym (ap (λ q. q.margin) (row-in n u 0 (omega arith))) ∙ ap (λ q. (row_at q 0).margin) (is-after (Put y) e)

          own-under : past.under ≡ get_or under r.account 0
          own-under = o.under ∙ under-in past.place o.inside ∙ ap (λ j. get_or under j 0) its-place

          its-under : past.clients ≡ get_or under (named_row b r).tm 0
          its-under = o.clients ∙ under-in past.own.tm p-low ∙ ap (λ j. get_or under j 0) (sym tm-is)

          all_under : past.all ≡ get_or under 0 0
          all_under = o.all ∙ under-in 0 (omega arith)

          clients-are : deemed_under_since n u past
              ≡ deemed_under_after (get_or under r.account 0) (get_or under (named_row b r).tm 0) (get_or under 0 0) (account_of (named_row b r)) (account_of y) (account_of (row_at b (named_row b r).tm))
          clients-are =
              ap (λ a. deemed_under_after past.under past.clients past.all a (account_in n u past.place) past.its) own_is
              ∙ ap (λ a. deemed_under_after past.under past.clients past.all (account_of (named_row b r)) a past.its) new_is
              ∙ ap (deemed_under_after past.under past.clients past.all (account_of (named_row b r)) (account_of y)) its-is
              ∙ ap (λ k. deemed_under_after k past.clients past.all (account_of (named_row b r)) (account_of y) (account_of (row_at b (named_row b r).tm))) own-under
              ∙ ap (λ k. deemed_under_after (get_or under r.account 0) k past.all (account_of (named_row b r)) (account_of y) (account_of (row_at b (named_row b r).tm))) its-under
              ∙ ap (λ k. deemed_under_after (get_or under r.account 0) (get_or under (named_row b r).tm 0) k (account_of (named_row b r)) (account_of y) (account_of (row_at b (named_row b r).tm))) all_under

          fresh : needed_since n u needs past ≡ needs_afresh (view after)
          fresh =
              let own = need_to_keep (account_of y) (get_or under r.account 0) in
              let d' = deemed_under_since n u past in
              ap (λ j. set (set (set needs j (need_to_keep (account_in n u past.place) past.under)) past.own.tm (need_to_keep past.its d'.tm)) 0 ((account_in n u 0).margin + d'.cm)) its-place
              ∙ ap (λ a. set (set (set needs r.account (need_to_keep a past.under)) past.own.tm (need_to_keep past.its d'.tm)) 0 ((account_in n u 0).margin + d'.cm)) new_is
              ∙ ap (λ k. set (set (set needs r.account (need_to_keep (account_of y) k)) past.own.tm (need_to_keep past.its d'.tm)) 0 ((account_in n u 0).margin + d'.cm)) own-under
              ∙ ap (λ k. set (set (set needs r.account own) k (need_to_keep past.its d'.tm)) 0 ((account_in n u 0).margin + d'.cm)) (sym tm-is)
              ∙ ap (λ a. set (set (set needs r.account own) (named_row b r).tm (need_to_keep a d'.tm)) 0 ((account_in n u 0).margin + d'.cm)) its-is
              ∙ ap (λ k. set (set (set needs r.account own) (named_row b r).tm (need_to_keep (account_of (row_at b (named_row b r).tm)) d'.tm)) 0 (k + d'.cm)) top-is
              ∙ ap (λ (z : DeemedUnderAfter). set (set (set needs r.account own) (named_row b r).tm (need_to_keep (account_of (row_at b (named_row b r).tm)) z.tm)) 0 ((row_at (with_row b r.account y) 0).margin + z.cm)) clients-are
              ∙ put-needs b r y g.sound e needs g.wide g.sound.kept under deemed-under (named_row b r).tm slot
              ∙ ap needs_afresh (sym view-is)
