-- What a client leaves is carried to its TM, and to the CM where it moves what the TM leaves: where it doesn't, the CM's need, excess and mode are as they were.
use Rattle.std.proofs.Common.{◌≡◌, ℕ, ◌+◌, ◌-◌, ◌*◌, ◌<◌, ◌≤◌, Bool, true, false, ◌&&◌, eqb, List, length, get_or, sym, refl, ap, ◌∙◌, ap₂, arith, length-set, get_or-set_other, get_or-set_same, eqb-true}
use lib.Seq.{set-get_or}
use Rattle.sums.specs.Choice.{pick}
use Rattle.sums.proofs.Choices.{and_split}
use Rattle.rows.specs.Modes.{mode_after}
use Rattle.table.specs.Words.{word_at}
use Rattle.steps.specs.declared.Lent.{Lent}
use Rattle.steps.specs.declared.following.Due.{Due}
use Rattle.steps.specs.Steps.{modes_in}
use Rattle.steps.specs.Dues.{Small, Fits, Steady, Risen, Lifted, due_of, need_risen, excess_risen, mode_risen, due_at, due_risen}

pub same-dues : {a b : Due} → (eqb a.plain b.plain && eqb a.tenths b.tenths) ≡ true → a ≡ b
same-dues {a} {b} e =
    let s = and_split (eqb a.plain b.plain) (eqb a.tenths b.tenths) e in
    ap₂ {C = Due} (λ p q. record { plain = p; tenths = q }) (eqb-true a.plain b.plain s.0) (eqb-true a.tenths b.tenths s.1)

-- a place that was not put has the mode that it had
pub mode-aside : (waiting : Bool) (was modes modes' : List Bool) (j : ℕ) → get_or modes' j false ≡ get_or modes j false → get_or (modes_in waiting was modes') j false ≡ get_or (modes_in waiting was modes) j false
unfolding pick
mode-aside true was modes modes' j e = refl
mode-aside false was modes modes' j e = e

-- what moves by nothing stays
come-and-gone : (m n d : ℕ) → m ≤ n → m + (n - m + d - d) ≡ n
come-and-gone m n d l = omega arith

pub no_more : (n d : ℕ) → n + d - d ≡ n
no_more n d = omega arith

-- the CM's place, or another's, put with what it was
module _ (lent : Lent) (before : List Bool) (j : ℕ) (s : Steady lent before j) (old new : Due) (e : old ≡ new) where
  pub need-stays : need_risen lent.words lent.needs j old new ≡ get_or lent.needs j 0
  need-stays = rw e (come-and-gone (word_at lent.words 9 j) (get_or lent.needs j 0) new.plain s.need)

  pub excess-stays : excess_risen lent.excess j old new ≡ get_or lent.excess j 0
  excess-stays = rw e (no_more (get_or lent.excess j 0) new.tenths)

  pub mode-stays : mode_risen lent.words lent.kept lent.excess before j old new ≡ get_or lent.modes j false
  mode-stays = ap (λ n. mode_after (10 * word_at lent.words 9 j + n) (get_or lent.kept j 0) (get_or before j false)) excess-stays ∙ sym s.look

module _ (lent : Lent) (before : List Bool) (t : ℕ) (old new : Due) (k : Lent) (f : Fits 100_000_000_000_000_000 lent t) (r : Risen lent before t old new k) (z : 0 < t) where
  abbrev w : List ℕ
  w = lent.words

  abbrev kept : List ℕ
  kept = lent.kept

  abbrev modes : List Bool
  modes = lent.modes

  abbrev needs : List ℕ
  needs = lent.needs

  abbrev excess : List ℕ
  excess = lent.excess

  abbrev n1 : List ℕ
  n1 = k.needs

  abbrev e1 : List ℕ
  e1 = k.excess

  abbrev m1 : List Bool
  m1 = k.modes

  abbrev its : Due
  its = due_at lent t

  abbrev after : Due
  after = due_risen lent t old new

  not_top : 0 ≡ t → ⊥
  not_top q = omega arith

  need-here : get_or n1 t 0 ≡ need_risen w needs t old new
  need-here = ap (λ l. get_or l t 0) r.need ∙ get_or-set_same needs t _ 0 (omega (arith, f.wide, f.inside))

  over-here : get_or e1 t 0 ≡ excess_risen excess t old new
  over-here = ap (λ l. get_or l t 0) r.over ∙ get_or-set_same excess t _ 0 (omega (arith, f.long, f.inside))

  need-top : get_or n1 0 0 ≡ get_or needs 0 0
  need-top = ap (λ l. get_or l 0 0) r.need ∙ get_or-set_other needs t 0 _ 0 not_top

  over-top : get_or e1 0 0 ≡ get_or excess 0 0
  over-top = ap (λ l. get_or l 0 0) r.over ∙ get_or-set_other excess t 0 _ 0 not_top

  pub mode-top : get_or m1 0 false ≡ get_or modes 0 false
  mode-top = ap (λ l. get_or l 0 false) r.mode ∙ get_or-set_other modes t 0 _ false not_top

  wide1 : length n1 ≡ 256
  wide1 = ap length r.need ∙ length-set needs t _ ∙ f.wide

  long1 : length e1 ≡ 256
  long1 = ap length r.over ∙ length-set excess t _ ∙ f.long

  less-own : (m k : ℕ) → m + k - m ≡ k
  less-own m k = omega arith

  under-here : get_or n1 t 0 - word_at w 9 t ≡ get_or needs t 0 - word_at w 9 t + new.plain - old.plain
  under-here = ap (λ k. k - word_at w 9 t) need-here ∙ less-own (word_at w 9 t) _

  pub due-risen : due_at k t ≡ after
  due-risen = rw r.rest (ap₂ (λ u e. due_of (word_at w 9 t) u e (get_or kept t 0)) under-here over-here)

  pub fits-here : Small 200_000_000_000_000_000 new → Fits 1_000_000_000_000_000_000 k t
  fits-here s = rw r.rest record {
    inside = f.inside;
    collaterals = f.collaterals;
    wide = wide1;
    long = long1;
    margin = f.margin;
    collateral = f.collateral;
    under = rw under-here (omega (arith, f.under, s.plain));
    over = rw over-here (omega (arith, f.over, s.tenths));
  }

  pub fits-top : Fits 100_000_000_000_000_000 lent 0 → Fits 1_000_000_000_000_000_000 k 0
  fits-top g = rw r.rest record {
    inside = g.inside;
    collaterals = g.collaterals;
    wide = wide1;
    long = long1;
    margin = g.margin;
    collateral = g.collateral;
    under = rw need-top (omega (arith, g.under));
    over = rw over-top (omega (arith, g.over));
  }

  pub small-risen : Small 200_000_000_000_000_000 new → Small 2_000_000_000_000_000_000 after
  small-risen s = record { plain = omega (arith, f.under, f.margin, s.plain); tenths = omega (arith, f.over, f.margin, s.tenths) }

  pub lifts : (its' after' : Due) → its' ≡ its → after' ≡ after → (before1 : List Bool) → get_or before1 0 false ≡ get_or before 0 false → (to : Lent)
      → Risen k before1 0 its' after' to → Lifted lent before t old new to
  lifts its' after' p q before1 b to h =
      let g = rw r.rest at h in
      record {
        need = g.need ∙ rw (p, q, need-top, r.need);
        over = g.over ∙ rw (p, q, over-top, r.over);
        mode = g.mode ∙ rw (p, q, over-top, b, r.mode);
        rest = g.rest;
      }

  pub unlifted : Steady lent before 0 → its ≡ after → Lifted lent before t old new k
  unlifted s e = record {
    need = sym (rw (need-stays lent before 0 s its after e, ← r.need, ← need-top) (set-get_or n1 0 0));
    over = sym (rw (excess-stays lent before 0 s its after e, ← r.over, ← over-top) (set-get_or e1 0 0));
    mode = sym (rw (mode-stays lent before 0 s its after e, ← r.mode, ← mode-top) (set-get_or m1 0 false));
    rest = r.rest;
  }
