-- After a record that put a row anew the lists beside the words stand as `steps::following::follow` asks, and what stood before it is told by them.
use Rattle.std.proofs.Common.{◌≡◌, ℕ, ◌+◌, ◌-◌, ◌*◌, ◌<◌, ◌≤◌, Bool, true, false, ◌&&◌, ◌||◌, eqb, leb, List, get_or, set, sym, refl, ap, ◌∙◌, ap₂, arith, length-set, get_or-set_other, get_or-set_same, eq-eqb, ne_eqb}
use native.Mathlib.Decide.{ℕ_discrete}
use Rattle.sums.specs.Sum.{only}
use Rattle.sums.proofs.Choices.{pick_yes, pick_no}
use Rattle.rows.specs.declared.Row.{Row}
use Rattle.rows.specs.declared.Account.{Account}
use Rattle.rows.specs.declared.Book.{Book}
use Rattle.rows.specs.declared.Rule.TheVariants.{New}
use Rattle.rows.specs.Rows.{row_at, collateral, view, with_row}
use Rattle.rows.specs.View.{is_tm}
use Rattle.rows.specs.Modes.{has_mode, mode_after}
use Rattle.rows.specs.Inner.{Slot, in_tenths}
use Rattle.rows.specs.DeemedUnder.{DeemedUnder}
use Rattle.rows.proofs.BySort.{Sort, sort-of}
use Rattle.rows.proofs.BySort as by-sort
use Rattle.rows.proofs.Counted.{collateral-most}
use Rattle.rows.proofs.KeptNeeds.{kept_top, kept_by}
use Rattle.rows.proofs.Looks.{looked-at, no_mode, look-by}
use Rattle.rows.proofs.NeedSums.{need-own}
use Rattle.rows.proofs.RowPut.{row_other}
use Rattle.table.specs.declared.Marks.{Marks}
use Rattle.table.specs.Words.{word_at, row_in}
use Rattle.table.proofs.Gathered.{row-in, rows-length}
use Rattle.book.proofs.OneRow.{at_all}
use Rattle.book.proofs.UnderMost.{excess-most}
use Rattle.dayfile.specs.declared.Record.{Record}
use Rattle.rules.specs.declared.Change.TheVariants.{Put}
use Rattle.rules.specs.Effects.{change_of}
use Rattle.rules.specs.Refusals.{named_row}
use Rattle.rules.proofs.Deciding.{put-passes, made-put}
use Rattle.rules.proofs.Moves.{amended-same}
use Rattle.steps.specs.declared.At.{At}
use Rattle.steps.specs.declared.Gone.{Gone}
use Rattle.steps.specs.declared.Lent.{Lent}
use Rattle.steps.specs.Steps.{Decided, modes_in, book_at, book_in, Going, Stepped}
use Rattle.steps.specs.Looks.{PastOf}
use Rattle.steps.specs.Dues.{Keeps, Steady, Bare, Stands, Following, Followed, collateral_in, margin_before, past_in, cm, tm, client, cp}
use Rattle.steps.proofs.LookedAt.{places-now, places-after, under, deemed-under, under-small, is-after, put_only, moved-step}

module _ (at : At) (was : List Bool) (lent : Lent) (g : Going at was lent) (r : Record)
    (x : Gone) (n : Marks) (u numbers' : List ℕ) (d : Decided at.count at.serial lent.marks lent.words (modes_in at.waiting was lent.modes) lent.needs at.next lent.numbers r x n u numbers')
    (y : Row) (e : change_of (book_in at was lent) r ≡ Put y) (i m0 : ℕ) (si : Slot r.account i) (em : m0 ≡ word_at lent.words 9 i) where
  abbrev m : Marks
  m = lent.marks

  abbrev w : List ℕ
  w = lent.words

  abbrev kept : List ℕ
  kept = lent.kept

  abbrev modes : List Bool
  modes = lent.modes

  abbrev needs : List ℕ
  needs = lent.needs

  abbrev numbers : List ℕ
  numbers = lent.numbers

  abbrev excess : List ℕ
  excess = lent.excess

  -- the arrays after it, before what stands beside the words follows
  abbrev left : Lent
  left = record { marks = n; words = u; kept = kept; modes = modes; needs = needs; numbers = numbers'; excess = excess }

  abbrev before : List Bool
  before = modes_in at.waiting was modes

  abbrev b : Book
  b = book_at at m w was modes needs numbers

  given : r.account < at.count
  given = (put-passes b r y e).account

  low : r.account < 256
  low = omega (arith, given, g.sound.most)

  here : i ≡ r.account
  here = si.named low

  i-given : i < at.count
  i-given = rw here given

  -- the rows after it, by the words
  row-after : (j : ℕ) → j < 256 → row_in n u j ≡ row_at (with_row b r.account y) j
  row-after j l = sym (row-in n u j l) ∙ ap (λ q. row_at q j) (is-after at was lent g r x n u numbers' d (Put y) e)

  row_before : (j : ℕ) → j < 256 → row_at b j ≡ row_in m w j
  row_before j l = row-in m w j l

  -- no other row moves, and the row keeps its sort and its TM
  row-aside : (j : ℕ) → j < 256 → (j ≡ i → ⊥) → row_in n u j ≡ row_in m w j
  row-aside j l q = row-after j l ∙ row_other b r.account j y (λ z. q (z ∙ sym here)) ∙ row_before j l

  marks-same : (j : ℕ) → j < 256 → (get_or n.sort j 0 ≡ get_or m.sort j 0) × (get_or n.tm j 0 ≡ get_or m.tm j 0)
  marks-same j l =
      let s = amended-same (named_row b r) r in
      let p = made-put b r y e in
      let k = at_all (λ j v z. (v.sort ≡ z.sort) × (v.tm ≡ z.tm)) b r.account y (omega (arith, rows-length m w, low)) (ap (λ z. z.sort) p ∙ s.0, ap (λ z. z.tm) p ∙ s.1) (λ j. (refl, refl)) j in
      (ap (λ z. z.sort) (row-after j l) ∙ k.0 ∙ ap (λ z. z.sort) (row_before j l), ap (λ z. z.tm) (row-after j l) ∙ k.1 ∙ ap (λ z. z.tm) (row_before j l))

  worth : (j : ℕ) → j < 256 → get_or kept j 0 ≡ collateral (row_in m w j)
  worth j l = g.keeps.each j l

  -- ---- collateral is kept
  pub keeps-put : Keeps u (set kept i (collateral_in u i))
  keeps-put = record { size = length-set kept i _ ∙ g.keeps.size; each = λ j l. by j l (ℕ_discrete j i) }
    where
      by : (j : ℕ) → j < 256 → Dec (j ≡ i) → get_or (set kept i (collateral_in u i)) j 0 ≡ collateral_in u j
      by j l (yes q) = rw q (get_or-set_same kept i (collateral_in u i) 0 (omega (arith, g.keeps.size, si.inside)))
      by j l (no q) = get_or-set_other kept i j (collateral_in u i) 0 q ∙ worth j l ∙ sym (ap collateral (row-aside j l q))

  -- ---- what stood before it
  margin-before : (j : ℕ) → j < 256 → margin_before u i m0 j ≡ word_at w 9 j
  margin-before j l = by (ℕ_discrete j i)
    where
      by : Dec (j ≡ i) → margin_before u i m0 j ≡ word_at w 9 j
      by (yes q) = pick_yes (eqb j i) _ _ (eq-eqb j i q) ∙ em ∙ ap (word_at w 9) (sym q)
      by (no q) = pick_no (eqb j i) _ _ (ne_eqb j i q) ∙ ap (λ z. z.margin) (row-aside j l q)

  account-as : {s t' k c s' t'' k' c' : ℕ} → s ≡ s' → t' ≡ t'' → k ≡ k' → c ≡ c'
      → ◌≡◌ {A = Account} (record { sort = s; tm = t'; margin = k; collateral = c }) (record { sort = s'; tm = t''; margin = k'; collateral = c' })
  account-as p q f h = rw (p, q, f, h)

  tm-low : get_or n.tm i 0 < 256
  tm-low = rw (marks-same i si.inside).1 ((places-now at was lent g r).tms i si.inside)

  pub past_of : PastOf m w needs r.account (past_in n u kept needs i m0)
  past_of =
      let t = get_or n.tm i 0 in
      record {
        inside = si.inside;
        named = si.named;
        own = account-as (marks-same i si.inside).0 (marks-same i si.inside).1 em (worth i si.inside);
        its = account-as (marks-same t tm-low).0 (marks-same t tm-low).1 (margin-before t tm-low) (worth t tm-low);
        under = ap (λ k. get_or needs i 0 - k) em;
        clients = ap (λ k. get_or needs t 0 - k) (margin-before t tm-low);
        all = ap (λ k. get_or needs 0 0 - k) (margin-before 0 (omega arith));
      }

  -- ---- the others are in step
  below : (j : ℕ) → j < at.count → j < 256
  below j l = omega (arith, g.sound.most)

  worth-most : (j : ℕ) → j < 256 → get_or kept j 0 ≤ 100_000_000_000_000
  worth-most j l = rw (worth j l) (omega (arith, collateral-most New (row_in m w j) ((places-now at was lent g r).ranges j l)))

  over-most : (j : ℕ) → get_or excess j 0 ≤ 25_600_000_000_000_000
  over-most j = excess-most b g.sound excess g.in-excess j

  abbrev Has : ℕ → Type 0
  Has j = has_mode (view b) j ≡ true

  look_is : (j : ℕ) → j < at.count → Has j → get_or modes j false ≡ mode_after (10 * word_at w 9 j + get_or excess j 0) (collateral (row_in m w j)) (get_or before j false)
  look_is j l h =
      ap (λ q. get_or q j false) g.looks ∙ looked-at (view b) before j (below j l) ∙ sym (look-by (view b) g.sound.shaped excess g.in-excess before j l)
      ∙ ap (λ t. t && mode_after (10 * (view b).margin j + get_or excess j 0) ((view b).collateral j) (get_or before j false)) h
      ∙ ap (λ z. mode_after (10 * z.margin + get_or excess j 0) (collateral z) (get_or before j false)) (row_before j (below j l))

  steady : (j : ℕ) → j < at.count → (j ≡ i → ⊥) → Has j → word_at w 9 j ≤ get_or needs j 0 → Steady left before j
  steady j l q h k =
      let f = below j l in
      let c = row-aside j f q in
      let z : word_at u 9 j ≡ word_at w 9 j = ap (λ v. v.margin) c in
      record {
        fits = record {
          inside = f;
          collaterals = g.keeps.size;
          wide = g.wide;
          long = g.in-excess.size;
          margin = ((places-after at was lent g r x n u numbers' d).ranges j f).margin;
          collateral = worth-most j f;
          under = rw z (omega (arith, under-small at was lent g r j f));
          over = omega (arith, over-most j);
        };
        own = worth j f ∙ sym (ap collateral c);
        need = rw z k;
        look = look_is j l h ∙ ap₂ (λ v y. mode_after (10 * v + get_or excess j 0) y (get_or before j false)) (sym z) (sym (worth j f));
      }

  list : List ℕ
  list = under at was lent g r

  list-under : DeemedUnder (view b) list
  unfolding list
  list-under = deemed-under at was lent g r

  margin-is : (j : ℕ) → j < 256 → (view b).margin j ≡ word_at w 9 j
  margin-is j l = ap (λ z. z.margin) (row_before j l)

  top-steady : (i ≡ 0 → ⊥) → Steady left before 0
  top-steady q =
      steady 0 g.sound.shaped.some (λ z. q (sym z)) refl
      (omega (arith, g.sound.kept 0 (omega arith), kept_top (view b) g.sound.shaped list list-under, margin-is 0 (omega arith)))

  sort-b : (j : ℕ) → j < 256 → (view b).sort j ≡ get_or n.sort j 0
  sort-b j l = ap (λ z. z.sort) (row_before j l) ∙ sym (marks-same j l).0

  tm-b : (j : ℕ) → j < 256 → (view b).tm j ≡ get_or n.tm j 0
  tm-b j l = ap (λ z. z.tm) (row_before j l) ∙ sym (marks-same j l).1

  tm-steady : (j : ℕ) → j < at.count → (j ≡ i → ⊥) → (j ≡ 0 → ⊥) → (view b).sort j ≡ 1 → Steady left before j
  tm-steady j l q z s =
      let h : is_tm (view b) j ≡ true = eq-eqb ((view b).sort j) 1 s in
      let k : get_or needs j 0 ≡ (view b).margin j + get_or list j 0 =
      g.sound.kept j (below j l) ∙ kept_by (view b) g.sound.shaped list list-under j z l ∙ ap (λ t. only t ((view b).margin j + get_or list j 0)) h in
      steady j l q (rw (ne_eqb j 0 z) h) (omega (arith, k, margin-is j (below j l)))

  -- of a client or CP nothing else is kept
  bare : (i ≡ 0 → ⊥) → 1 < (view b).sort i → Bare left i
  bare z l =
      let none : is_tm (view b) i ≡ false = ne_eqb ((view b).sort i) 1 (λ q. omega arith) in
      record {
        need = g.sound.kept i si.inside ∙ kept_by (view b) g.sound.shaped list list-under i z i-given ∙ ap (λ t. only t ((view b).margin i + get_or list i 0)) none;
        over = omega (arith, g.in-excess.each i i-given, need-own (in_tenths (view b)) i l);
        mode = ap (λ q. get_or q i false) g.looks ∙ looked-at (view b) before i si.inside ∙ no_mode (view b) before i z none;
      }

  stands : Stands left before i
  stands = by (sort-of (view b) g.sound.shaped i i-given)
    where
      its : get_or n.sort i 0 ≡ (view b).sort i
      its = sym (sort-b i si.inside)

      no-tm : ((view b).sort i ≡ 2 → ⊥) → get_or n.tm i 0 ≡ 0
      no-tm q = sym (tm-b i si.inside) ∙ g.sound.no-tm i i-given q

      by : Sort (view b) i → Stands left before i
      by (by-sort.cm z s) = cm z
      by (by-sort.tm z s) = tm (λ q. omega arith) (its ∙ s) (no-tm (λ q. omega arith)) (top-steady (λ q. omega arith))
      by (by-sort.cp z s) = cp (λ q. omega arith) (its ∙ s) (no-tm (λ q. omega arith)) (bare (λ q. omega arith) (omega arith)) (top-steady (λ q. omega arith))
      by (by-sort.client z s) =
          let t = g.sound.shaped.tms i i-given s in
          let k = tm-b i si.inside in
          let f : get_or n.tm i 0 < i = omega (arith, t.0) in
          let o : get_or n.tm i 0 ≡ 0 → ⊥ = λ q. omega (arith, ap (view b).sort (k ∙ q), t.1, g.sound.shaped.top) in
          let one : (view b).sort (get_or n.tm i 0) ≡ 1 = ap (view b).sort (sym k) ∙ t.1 in
          client (λ q. omega arith) (its ∙ s) (omega (arith, o)) f (sym (sort-b (get_or n.tm i 0) tm-low) ∙ one) (bare (λ q. omega arith) (omega arith))
          (tm-steady (get_or n.tm i 0) (omega (arith, i-given)) (λ q. omega arith) o one) (top-steady (λ q. omega arith))

  pub follows : Following left before i m0
  follows =
      let p = places-after at was lent g r x n u numbers' d in
      let k = p.ranges i si.inside in
      record {
        ranging = record {
          inside = si.inside;
          cash = omega (arith, k.received, k.allocated);
          deposits = omega (arith, k.received, k.allocated);
          guarantees = omega (arith, k.received, k.allocated);
          securities = omega (arith, k.received, k.allocated);
          pledged = k.pledged;
        };
        margin = k.margin;
        was = rw em ((places-now at was lent g r).ranges i si.inside).margin;
        collaterals = g.keeps.size;
        wide = g.wide;
        long = g.in-excess.size;
        collateral = worth-most i si.inside;
        under = rw em (under-small at was lent g r i si.inside);
        over = over-most i;
        tms = d.size.tms;
        sorts = d.size.sorts;
        top = (sym (sort-b 0 (omega arith)) ∙ g.sound.shaped.top, sym (tm-b 0 (omega arith)) ∙ g.sound.no-tm 0 g.sound.shaped.some (λ q. omega (arith, g.sound.shaped.top)));
        stands = stands;
      }

module _ (at : At) (was : List Bool) (lent : Lent) (g : Going at was lent) (r : Record) (x : Gone) (k : Lent)
    (d : Decided at.count at.serial lent.marks lent.words (modes_in at.waiting was lent.modes) lent.needs at.next lent.numbers r x k.marks k.words k.numbers)
    (rest : k ≡ record lent { marks = k.marks; words = k.words; numbers = k.numbers }) (z : x.refusal ≡ 0) (moving : (leb r.code 5 || eqb r.code 11) ≡ false)
    (i s m0 : ℕ) (placed : r.account ≡ i) (si : Slot r.account s) (em : m0 ≡ word_at lent.words 9 s) where
  -- a row that is put anew is held, and the slot is its own place
  held : (y : Row) → change_of (book_in at was lent) r ≡ Put y → r.account < 256
  held y e = omega (arith, (put-passes (book_in at was lent) r y e).account, g.sound.most)

  itself : (y : Row) → change_of (book_in at was lent) r ≡ Put y → Slot r.account i
  itself y e = record { inside = omega (arith, held y e, placed); named = λ h. sym placed }

  margin-was : (y : Row) → change_of (book_in at was lent) r ≡ Put y → m0 ≡ word_at lent.words 9 i
  margin-was y e = em ∙ ap (word_at lent.words 9) (si.named (held y e) ∙ placed)

  pub moved-follows : Following k (modes_in at.waiting was k.modes) i m0
  moved-follows =
      rw rest
      (put_only at was lent g r x k.marks k.words k.numbers d z moving (λ y e. follows at was lent g r x k.marks k.words k.numbers d y e i m0 (itself y e) (margin-was y e)))

  pub moved-steps : (after : Lent) → Followed k (modes_in at.waiting was k.modes) i m0 after → Stepped at was lent r x after
  moved-steps after f =
      rw (f.rest, f.own, f.need, f.over, f.mode, rest)
      (put_only at was lent g r x k.marks k.words k.numbers d z moving
      (λ y e. moved-step at was lent g r x k.marks k.words k.numbers d (past_in k.marks k.words lent.kept lent.needs i m0) (past_of at was lent g r x k.marks k.words k.numbers d y e i m0 (itself y e) (margin-was y e))
      (set lent.kept i (collateral_in k.words i)) (keeps-put at was lent g r x k.marks k.words k.numbers d y e i m0 (itself y e) (margin-was y e)) y e))
