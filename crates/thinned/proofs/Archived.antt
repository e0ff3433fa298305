-- The archived book is the book without its retired rows, and is sound where the book is.
use mathlib.Core.Bool.{Bool, true, false}
use mathlib.Core.Logic.{inl, inr}
use mathlib.Core.Path.{◌≡◌, refl, sym, ap, ◌∙◌}
use Prim.Native.Nat.{ℕ, ◌≤◌, ◌<◌}
use native.Mathlib.Omega.{arith}
use native.Mathlib.Decide.{ℕ_discrete, dec_lt}
use lib.Dec.{eqb}
use lib.ListN.{get_or}
use borrow.Author.Tests.{ne_eqb, le-leb}
use Rattle.sums.specs.Choice.{pick}
use Rattle.sums.proofs.Choices.{or_left, or_right, test-clash}
use Rattle.rows.specs.declared.Row.{Row}
use Rattle.rows.specs.declared.Book.{Book}
use Rattle.rows.specs.Rows.{no_row, row_at, mode_at, need_at, number_at, places, view}
use Rattle.rows.specs.Facts.{Shaped, NoTM, InRange, NeedsKept}
use Rattle.rows.specs.KeptNeeds.{kept_need}
use Rattle.rows.proofs.KeptNeeds.{kept-CM, kept-none}
use Rattle.book.specs.Facts.{Numbered, SoundRows, Sound, MayBeOn}
use Rattle.book.proofs.Settled.{sound-rows, with_rest}
use Rattle.gaps.specs.Gaps.{place_after, moved_row, kept_of, archived}
use Rattle.gaps.proofs.Places.{at_place, place_none, place-order, place-lt, place-most}
use Rattle.gaps.proofs.Passing.{kept-held}
use Rattle.gaps.proofs.ClosedUp.{closed-size, closed_at, closed-beyond}
use Rattle.thinned.proofs.Dropped.{Dropped, need_tm-kept, need_cm-kept}
use Rattle.thinned.proofs.Thinned.{Thinned, dropped, same-top}

module _ (b : Book) (s : Sound b) where
  abbrev keep : ℕ → Bool
  keep = kept_of b

  abbrev c : Book
  c = archived b

  kept-live : (i : ℕ) → i < b.count → keep i ≡ true → (row_at b i).live ≡ true
  kept-live i l e = sym (kept-held b i l) ∙ e

  pub archived-thinned : Thinned (kept_of b) b (archived b)
  unfolding archived
  archived-thinned = record {
    serial = refl;
    next = refl;
    count = refl;
    rows = closed_at b s.most (λ i. moved_row keep (row_at b i)) no_row;
    modes = closed_at b s.most (mode_at b) false;
    numbers = closed_at b s.most (number_at b) 0;
    top = or_left _ s.top-live;
    beyond = λ i l. or_right (row_at b i).live (le-leb b.count i l);
    tm-kept = λ i l e q. or_left _ (s.tm-live i l q (kept-live i l e));
    gone = λ i l e. sym (kept-held b i l) ∙ e;
  }

  d : Thinned keep b c
  d = archived-thinned

  -- the row that stands at place j of the archived book
  record There (j : ℕ) : Type 0 where
    pub row : ℕ
    pub below : row < b.count
    pub kept : keep row ≡ true
    pub place : place_after keep row ≡ j
    pub is : row_at c j ≡ moved_row keep (row_at b row)
    pub number : number_at c j ≡ number_at b row

  there : (j : ℕ) → j < c.count → There j
  unfolding archived
  there j l =
      let a = at_place keep b.count j l in
      record {
        row = a.row;
        below = a.below;
        kept = a.kept;
        place = a.place;
        is = ap (row_at c) (sym a.place) ∙ d.rows a.row a.below a.kept;
        number = ap (number_at c) (sym a.place) ∙ d.numbers a.row a.below a.kept;
      }

  -- "keeping the others' order"
  in_order : {i j : ℕ} (x : There i) (y : There j) → i < j → x.row < y.row
  in_order x y l = place-order keep x.row y.row (omega (arith, x.place, y.place))

  all_live : (j : ℕ) → j < c.count → (row_at c j).live ≡ true
  all_live j l = let a = there j l in ap (λ r. r.live) a.is ∙ kept-live a.row a.below a.kept

  beyond-blank : (j : ℕ) → c.count ≤ j → row_at c j ≡ no_row
  unfolding archived
  beyond-blank j l = closed-beyond b s.most (λ i. moved_row keep (row_at b i)) no_row j l

  some_left : 0 < c.count
  unfolding archived
  some_left = omega (arith, place_none keep, place-lt keep 0 b.count d.top s.shaped.some)

  -- a client's TM at the archived book
  its-tm : (j : ℕ) → j < c.count → (row_at c j).sort ≡ 2 → ((row_at c j).tm < j) × ((row_at c (row_at c j).tm).sort ≡ 1)
  its-tm j l e =
      let a = there j l in
      let was : (row_at b a.row).sort ≡ 2 = sym (ap (λ r. r.sort) a.is) ∙ e in
      let t = s.shaped.tms a.row a.below was in
      let low = t.0 in
      let k = d.tm-kept a.row a.below a.kept was in
      let tm : (row_at c j).tm ≡ place_after keep (row_at b a.row).tm = ap (λ r. r.tm) a.is in (
        omega (arith, tm, a.place, place-lt keep (row_at b a.row).tm a.row k low),
        ap (λ i. (row_at c i).sort) tm ∙ ap (λ r. r.sort) (d.rows (row_at b a.row).tm (omega (arith, a.below)) k) ∙ t.1,
      )

  shape : Shaped (view c)
  shape = record {
    some = some_left;
    top = ap (λ r. r.sort) (ap (row_at c) (sym (place_none keep)) ∙ d.rows 0 s.shaped.some d.top) ∙ s.shaped.top;
    sorts = λ j p l. let a = there j l in rw a.is (s.shaped.sorts a.row (omega (arith, a.place, place-most keep a.row)) a.below);
    tms = its-tm;
  }

  no-tm : NoTM (view c)
  no-tm j l ne =
      let a = there j l in
      ap (λ r. r.tm) a.is ∙ ap (place_after keep) (s.no-tm a.row a.below (λ e. ne (ap (λ r. r.sort) a.is ∙ e))) ∙ place_none keep

  ranges : (j : ℕ) → j < c.count → InRange (row_at c j)
  ranges j l = let a = there j l in rw a.is (moved (row_at b a.row) (s.ranges a.row a.below))
    where
      moved : (r : Row) → InRange r → InRange (moved_row keep r)
      moved r h = record { received = h.received; allocated = h.allocated; pledged = h.pledged; margin = h.margin }

  -- "rows in a sound book rise by number, all below the next to be given": they still do
  numbered : Numbered c.count c.numbers c.next
  unfolding archived
  numbered = record {
    wide = closed-size b s.most (number_at b) 0;
    top = ap (number_at c) (sym (place_none keep)) ∙ d.numbers 0 s.shaped.some d.top ∙ s.numbered.top;
    rises = λ i j h l.
        let x = there i (omega arith) in
        let y = there j l in
        omega (arith, x.number, y.number, s.numbered.rises x.row y.row (in_order x y h) y.below);
    below = λ i l. let x = there i l in omega (arith, x.number, s.numbered.below x.row x.below);
    last = s.numbered.last;
    beyond = closed-beyond b s.most (number_at b) 0;
  }

  rows-size : places c ≡ 256
  unfolding archived
  rows-size = closed-size b s.most (λ i. moved_row keep (row_at b i)) no_row

  archived-rows : SoundRows (archived b)
  archived-rows = record {
    table = rows-size;
    most = omega (arith, d.count, place-most keep b.count, s.most);
    top-live = all_live 0 some_left;
    blank = beyond-blank;
    shaped = shape;
    no-tm = no-tm;
    tm-live = λ j l e v. all_live (row_at c j).tm (let low = (its-tm j l e).0 in omega arith);
    retired = λ j l e. test-clash (all_live j l) e;
    ranges = ranges;
    numbered = numbered;
  }

  modes-good : (j : ℕ) → j < 256 → mode_at c j ≡ true → MayBeOn c j
  unfolding archived
  modes-good j l e = by (dec_lt j c.count)
    where
      may : (a : There j) → MayBeOn b a.row → MayBeOn c j
      may a (inl z) = inl (sym a.place ∙ ap (place_after keep) z ∙ place_none keep)
      may a (inr z) = inr (ap (λ r. r.sort) a.is ∙ z.0, ap (λ r. r.live) a.is ∙ z.1)

      by : Dec (j < c.count) → MayBeOn c j
      by (yes z) =
          let a = there j z in
          may a (s.modes a.row (omega (arith, a.below, s.most)) (sym (ap (mode_at c) (sym a.place) ∙ d.modes a.row a.below a.kept) ∙ e))
      by (no z) = test-clash e (closed-beyond b s.most (mode_at b) false j (omega arith))

  drop : Dropped keep (view b) (view c)
  drop = dropped (sound-rows b s) d

  -- a kept row's need to keep is the one it had
  same_kept : (i : ℕ) → i < b.count → keep i ≡ true → Dec (i ≡ 0) → kept_need (view b) i ≡ kept_need (view c) (place_after keep i)
  unfolding pick
  same_kept i m k (yes z) =
      rw z (kept-CM (view b) ∙ sym (need_cm-kept keep (view b) (view c) drop s.shaped.some d.top) ∙ sym (ap (kept_need (view c)) (place_none keep) ∙ kept-CM (view c)))
  same_kept i m k (no z) =
      rw (ne_eqb i 0 z, same-top (sound-rows b s) d i m k ∙ ne_eqb i 0 z, need_tm-kept keep (view b) (view c) drop i m k, drop.sort i m k)

  needs-good : NeedsKept (view c) c.needs
  unfolding archived
  needs-good j l = by (dec_lt j c.count)
    where
      by : Dec (j < c.count) → get_or c.needs j 0 ≡ kept_need (view c) j
      by (yes z) =
          let a = there j z in
          rw (← a.place)
          (closed_at b s.most (need_at b) 0 a.row a.below a.kept ∙ s.kept a.row (omega (arith, a.below, s.most))
          ∙ same_kept a.row a.below a.kept (ℕ_discrete a.row 0))
      by (no z) =
          closed-beyond b s.most (need_at b) 0 j (omega arith)
          ∙ sym (kept-none (view c) j (λ e. omega (arith, some_left)) (ap (λ r. eqb r.sort 1) (beyond-blank j (omega arith))))

  -- THE LAW: the archived book is sound
  pub archived-sound : Sound (archived b)
  archived-sound = with_rest (archived b) archived-rows modes-good needs-good
