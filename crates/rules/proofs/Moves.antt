-- What a verdict needs beside the row named, and what a record moves, by the list of what is deemed under each account: no table is added up. The list moves at two places, in tenths too.
-- After it K2's look and K3's kept needs move at most three places, and what is put at them is told by the list.
use mathlib.Core.Bool.{Bool, true, false, not}
use mathlib.Core.List.{List}
use mathlib.Core.Path.{◌≡◌, refl, sym, ap, subst, ◌∙◌}
use Prim.Native.Nat.{ℕ, ◌+◌, ◌≤◌, ◌<◌}
use native.Mathlib.Omega.{arith}
use native.Mathlib.Decide.{ℕ_discrete}
use lib.Dec.{ltb, eqb}
use lib.ListN.{length, get_or, set, length-set}
use lib.Seq.{get_or-set_same, get_or-set_other}
use borrow.Author.Tests.{eq-eqb, ne_eqb}
use Rattle.sums.specs.Sum.{only}
use Rattle.sums.specs.Choice.{pick}
use Rattle.rows.specs.declared.Row.{Row}
use Rattle.rows.specs.declared.Account.{Account}
use Rattle.rows.specs.declared.Book.{Book}
use Rattle.rows.specs.View.{View, blocked_of, blocked, need_cm}
use Rattle.rows.specs.Rows.{ceiling, row_at, mode_at, places, collateral, account_of, view, with_margin, with_row, with_new, has_live_client}
use Rattle.rows.specs.DeemedUnder.{DeemedUnder, account_at, at_margin, deemed_under_tm, deemed_under_cm, need_to_keep}
use Rattle.rows.specs.Modes.{look_at, looked}
use Rattle.rows.specs.Facts.{Shaped, NeedsKept}
use Rattle.rows.specs.KeptNeeds.{kept_need, needs_afresh}
use Rattle.rows.specs.Inner.{Slot, account_as, view_as}
use Rattle.rows.proofs.BySort.{Sort, cm, tm, client, cp, sort-of}
use Rattle.rows.proofs.Tenths.{shaped_in}
use Rattle.rows.proofs.KeptNeeds.{kept_top, kept_by}
use Rattle.rows.proofs.RowPut.{row_same, row_other, opened-below, opened-new}
use Rattle.book.specs.Facts.{SoundRows, Sound}
use Rattle.book.proofs.OneRow.{at_all, row_opened}
use Rattle.book.proofs.Differences.{RowChanged, changed-in, row-changed}
use Rattle.book.proofs.Opens.{Opened, opened_in}
use Rattle.book.proofs.SoundAfter.{in_table}
use Rattle.book.proofs.UnderPut.{cm-after, under-put}
use Rattle.book.proofs.UnderOpen.{under-open}
use Rattle.book.proofs.LookAfter.{look-put, look-open}
use Rattle.book.proofs.NeedsAfter.{kept-aside, needs-put, needs-open}
use Rattle.book.proofs.Settled.{sound-rows, none-beyond}
use Rattle.dayfile.specs.declared.Record.{Record}
use Rattle.rules.specs.declared.Change.TheVariants.{Put, Open}
use Rattle.rules.specs.Refusals.{named_row, row_left, left_below, need_passes, new_margin}
use Rattle.rules.specs.Effects.{amended, change_of, changed_by}
use Rattle.rules.specs.Inner.{beside_by, top_margin}
use Rattle.rules.proofs.WhatIsBeside.{IsBeside}
use Rattle.rules.proofs.Deciding.{put-passes, open-below, made-put, made-open}
use Rattle.rules.proofs.SoundChange.{change-rows}

right_zero : (n : ℕ) → n + 0 ≡ n
right_zero n = omega arith

left-zero : (n : ℕ) → 0 + n ≡ n
left-zero n = omega arith

-- a new margin leaves the CM's collateral as it was
same-collateral : (b : Book) (r : Record) → Sound b → r.account < b.count → collateral (row_at (new_margin b r) 0) ≡ collateral (row_at b 0)
same-collateral b r s l =
    at_all (λ j x y. collateral x ≡ collateral y) b r.account (with_margin (named_row b r) r.margin) (in_table b s r.account l) refl (λ j. refl) 0

module _ (b : Book) (s : Sound b) (under : List ℕ) (h : DeemedUnder (view b) under) (r : Record) (p : ℕ) (sl : Slot (named_row b r).tm p) where
  abbrev row : Row
  row = named_row b r

  abbrev a : Account
  a = account_of (named_row b r)

  abbrev top : Account
  top = account_of (row_at b 0)

  top-margin : r.account < b.count → top_margin a top r.margin ≡ (row_at (new_margin b r) 0).margin
  top-margin l = by (sort-of (view b) s.shaped r.account l)
    where
      there : r.account ≡ 0 → (row_at (new_margin b r) 0).margin ≡ r.margin
      there e = ap (λ j. (row_at (new_margin b r) j).margin) (sym e) ∙ ap (λ x. x.margin) (row_same b r.account (with_margin row r.margin) (in_table b s r.account l))

      other : 0 < r.account → (row_at (new_margin b r) 0).margin ≡ (row_at b 0).margin
      other q = ap (λ x. x.margin) (row_other b r.account 0 (with_margin row r.margin) (λ e. omega arith))

      set_here : row.sort ≡ 0 → top_margin a top r.margin ≡ r.margin
      set_here c = ap (λ z. only z r.margin + only (not z) (row_at b 0).margin) (eq-eqb row.sort 0 c) ∙ right_zero r.margin

      left_there : (row.sort ≡ 0 → ⊥) → top_margin a top r.margin ≡ (row_at b 0).margin
      left_there ne = ap (λ z. only z r.margin + only (not z) (row_at b 0).margin) (ne_eqb row.sort 0 ne) ∙ left-zero (row_at b 0).margin

      by : Sort (view b) r.account → top_margin a top r.margin ≡ (row_at (new_margin b r) 0).margin
      by (cm e c) = set_here c ∙ sym (there e)
      by (tm q c) = left_there (λ e. omega arith) ∙ sym (other q)
      by (client q c) = left_there (λ e. omega arith) ∙ sym (other q)
      by (cp q c) = left_there (λ e. omega arith) ∙ sym (other q)

  abbrev y : ℕ → ℕ
  y m = deemed_under_cm a (at_margin a m) (get_or under r.account 0) (account_of (row_at b p)) (get_or under p 0) (get_or under 0 0)

  changed : r.account < b.count → RowChanged (view b) (view (new_margin b r)) r.account
  changed l = row-changed b r.account (with_margin row r.margin) (in_table b s r.account l) l refl refl

  is-new : r.account < b.count → account_at (view (new_margin b r)) r.account ≡ at_margin a r.margin
  is-new l = ap account_of (row_same b r.account (with_margin row r.margin) (in_table b s r.account l))

  need-after : r.account < b.count → need_cm (view (new_margin b r)) ≡ (row_at (new_margin b r) 0).margin + y r.margin
  need-after l =
      cm-after (view b) (view (new_margin b r)) r.account (changed l) s.shaped s.no-tm s.most under h p sl
      ∙ ap (λ x. (row_at (new_margin b r) 0).margin + deemed_under_cm a x (get_or under r.account 0) (account_of (row_at b p)) (get_or under p 0) (get_or under 0 0)) (is-new l)

  covers : r.account < b.count → r.margin ≤ ceiling
      → ltb (collateral (row_at b 0)) (top_margin a top (blocked_of r.margin ceiling) + y (blocked_of r.margin ceiling))
      ≡ need_passes (view (new_margin b r))
  covers l m =
      let e : blocked_of r.margin ceiling ≡ r.margin = omega arith in
      ap (λ z. ltb (collateral (row_at b 0)) (top_margin a top z + y z)) e
      ∙ ap (λ z. ltb (collateral (row_at b 0)) (z + y r.margin)) (top-margin l)
      ∙ ap (ltb (collateral (row_at b 0))) (sym (need-after l))
      ∙ ap (λ z. ltb z (need_cm (view (new_margin b r)))) (sym (same-collateral b r s l))

  below : r.account < b.count → ltb (collateral (row_left row r)) (blocked_of (row.margin + get_or under r.account 0) (collateral row))
      ≡ left_below row (blocked (view b) r.account) r
  below l = sym (ap (λ n. ltb (collateral (row_left row r)) (blocked_of n (collateral row))) (h.each r.account l))

  pub beside-by-deemed : (t : Bool) → (r.code ≡ 11 → t ≡ has_live_client b r.account)
      → IsBeside b r (beside_by (mode_at b r.account) (collateral (row_left row r)) a (get_or under r.account 0) (account_of (row_at b p)) (get_or under p 0) top (get_or under 0 0) t r)
  beside-by-deemed t k = record {
    mode-kinds = λ e l. refl;
    mode-pledge = λ e l. refl;
    below-kinds = λ e l. below l;
    below-pledge = λ e l. below l;
    cover = λ e l m. covers l m;
    clients = λ e l. k e;
  }

-- a record that passes leaves the row's sort and TM as they were
picks : (P : Row → Type 0) (t : Bool) (x y : Row) → P x → P y → P (pick t x y)
unfolding pick
picks P true x y a b = a
picks P false x y a b = b

pub amended-same : (row : Row) (r : Record) → ((amended row r).sort ≡ row.sort) × ((amended row r).tm ≡ row.tm)
unfolding amended
amended-same row r =
    on 4 _ _ (refl, refl) (on 5 _ _ (refl, refl) (on 6 _ _ (refl, refl) (on 7 _ _ (refl, refl) (on 8 _ _ (refl, refl) (on 9 _ _ (refl, refl) (on 10 _ _ (refl, refl) (on 12 _ _ (refl, refl) (on 13 _ _ (refl, refl) (refl, refl)))))))))
  where
    on : (n : ℕ) (x y : Row) → (x.sort ≡ row.sort) × (x.tm ≡ row.tm) → (y.sort ≡ row.sort) × (y.tm ≡ row.tm)
        → ((pick (eqb r.code n) x y).sort ≡ row.sort) × ((pick (eqb r.code n) x y).tm ≡ row.tm)
    on n x y a b = picks (λ z. (z.sort ≡ row.sort) × (z.tm ≡ row.tm)) (eqb r.code n) x y a b

-- a row put anew
module _ (b : Book) (r : Record) (x : Row) (s : Sound b) (e : change_of b r ≡ Put x) where
  inside : r.account < b.count
  inside = (put-passes b r x e).account

  there : r.account < places b
  there = in_table b s r.account inside

  moved : RowChanged (view b) (view (with_row b r.account x)) r.account
  moved =
      let a = amended-same (named_row b r) r in
      let q = made-put b r x e in
      row-changed b r.account x there inside (ap (λ z. z.sort) q ∙ a.0) (ap (λ z. z.tm) q ∙ a.1)

  -- what is deemed under each account, and in tenths its excess
  pub put-deemed : (tenths : Bool) (under : List ℕ) → DeemedUnder (view_as tenths (view b)) under → (p : ℕ) → Slot (named_row b r).tm p
      → DeemedUnder (view_as tenths (view (with_row b r.account x)))
      (set (set under p (deemed_under_tm (account_as tenths (account_of (named_row b r))) (account_as tenths (account_of x)) (get_or under p 0))) 0
      (deemed_under_cm (account_as tenths (account_of (named_row b r))) (account_as tenths (account_of x)) (get_or under r.account 0) (account_as tenths (account_of (row_at b p))) (get_or under p 0) (get_or under 0 0)))
  put-deemed tenths under h p sl =
      let is-new : account_at (view (with_row b r.account x)) r.account ≡ account_of x = ap account_of (row_same b r.account x there) in
      subst (λ (y : Account). DeemedUnder (view_as tenths (view (with_row b r.account x))) (set (set under p (deemed_under_tm (account_as tenths (account_of (named_row b r))) (account_as tenths y) (get_or under p 0))) 0
      (deemed_under_cm (account_as tenths (account_of (named_row b r))) (account_as tenths y) (get_or under r.account 0) (account_as tenths (account_of (row_at b p))) (get_or under p 0) (get_or under 0 0)))) is-new
      (under-put (view_as tenths (view b)) (view_as tenths (view (with_row b r.account x))) r.account (changed-in tenths moved) (shaped_in tenths s.shaped) s.no-tm s.most under h p sl)

  -- K2: a look after it moves three places of a look before it
  pub put-looks : (modes : List Bool) (p : ℕ) → Slot (named_row b r).tm p
      → (let w = view (with_row b r.account x) in looked w modes
      ≡ set (set (set (looked (view b) modes) r.account (look_at w modes r.account)) p (look_at w modes p)) 0 (look_at w modes 0))
  put-looks modes p sl = look-put (view b) (view (with_row b r.account x)) r.account moved s.shaped s.most p sl modes

  -- K3: no other account's need moves
  pub put-aside : (p : ℕ) → Slot (named_row b r).tm p → (i : ℕ) → (i ≡ r.account → ⊥) → (i ≡ p → ⊥) → (i ≡ 0 → ⊥)
      → kept_need (view (with_row b r.account x)) i ≡ kept_need (view b) i
  put-aside p sl = kept-aside (view b) (view (with_row b r.account x)) r.account moved s.shaped s.most p sl

  -- the kept needs after it, from what was deemed under the account, its TM and the CM before it
  module _ (needs : List ℕ) (long : length needs ≡ 256) (kept : NeedsKept (view b) needs) (under : List ℕ) (h : DeemedUnder (view b) under) (p : ℕ) (sl : Slot (named_row b r).tm p) where
    abbrev w : View
    w = view (with_row b r.account x)

    abbrev tm' : ℕ
    tm' = deemed_under_tm (account_of (named_row b r)) (account_of x) (get_or under p 0)

    abbrev cm' : ℕ
    cm' = deemed_under_cm (account_of (named_row b r)) (account_of x) (get_or under r.account 0) (account_of (row_at b p)) (get_or under p 0) (get_or under 0 0)

    abbrev under' : List ℕ
    under' = set (set under p tm') 0 cm'

    then : DeemedUnder w under'
    then = put-deemed false under h p sl

    shaped' : Shaped w
    shaped' = (rw e at (change-rows b r s)).shaped

    long-TM : length (set under p tm') ≡ 256
    long-TM = length-set under p tm' ∙ h.size

    -- where its TM is another account than the CM, the account is a client
    client-of-p : (p ≡ 0 → ⊥) → (p < r.account) × (p < b.count)
    client-of-p n = by (ℕ_discrete (named_row b r).sort 2)
      where
        by : Dec ((named_row b r).sort ≡ 2) → (p < r.account) × (p < b.count)
        by (yes c) =
            let t = (s.shaped.tms r.account inside c).0 in
            let q : p ≡ (named_row b r).tm = sl.named (omega (arith, t, inside, s.most)) in
            (omega (arith, t, q), omega (arith, t, q, inside))
        by (no c) = let z = s.no-tm r.account inside c in absurd (n (sl.named (omega (arith, z)) ∙ z))

    own_is : (r.account ≡ p → ⊥) → (r.account ≡ 0 → ⊥) → need_to_keep (account_of x) (get_or under r.account 0) ≡ kept_need w r.account
    own_is q n =
        sym (kept_by w shaped' under' then r.account n inside
        ∙ ap (λ a. need_to_keep a (get_or under' r.account 0)) (ap account_of (row_same b r.account x there))
        ∙ ap (need_to_keep (account_of x)) (get_or-set_other (set under p tm') 0 r.account cm' 0 n ∙ get_or-set_other under p r.account tm' 0 q))

    its-is : (p ≡ 0 → ⊥) → need_to_keep (account_of (row_at b p)) tm' ≡ kept_need w p
    its-is n =
        let c = client-of-p n in
        sym (kept_by w shaped' under' then p n c.1
        ∙ ap (λ a. need_to_keep a (get_or under' p 0)) (ap account_of (row_other b r.account p x (λ q. omega (arith, c.0))))
        ∙ ap (need_to_keep (account_of (row_at b p))) (get_or-set_other (set under p tm') 0 p cm' 0 n ∙ get_or-set_same under p tm' 0 (omega (arith, h.size, sl.inside))))

    top-is : (row_at (with_row b r.account x) 0).margin + cm' ≡ kept_need w 0
    top-is =
        sym (kept_top w shaped' under' then ∙ ap (λ n. (row_at (with_row b r.account x) 0).margin + n) (get_or-set_same (set under p tm') 0 cm' 0 (omega (arith, long-TM))))

    pub put-needs : set (set (set needs r.account (need_to_keep (account_of x) (get_or under r.account 0))) p (need_to_keep (account_of (row_at b p)) tm')) 0
        ((row_at (with_row b r.account x) 0).margin + cm') ≡ needs_afresh w
    put-needs = needs-put (view b) w r.account moved s.shaped s.most p sl needs long kept _ _ _ own_is its-is top-is

-- an account opened
module _ (b : Book) (r : Record) (x : Row) (s : Sound b) (e : change_of b r ≡ Open x) where
  after : SoundRows (changed_by b r.account (Open x))
  after = rw e at (change-rows b r s)

  room : b.count < places b
  room = omega (arith, open-below b r x e, s.table)

  its-tm : x.sort ≡ 2 → (x.tm < b.count) × ((row_at b x.tm).sort ≡ 1)
  its-tm q =
      let t : (x.tm < b.count) × ((row_at (with_new b x) x.tm).sort ≡ 1) =
      rw (opened-new b x room) at (after.shaped.tms b.count (omega arith) (ap (λ z. z.sort) (opened-new b x room) ∙ q)) in
      (t.0, ap (λ z. z.sort) (sym (opened-below b x room x.tm t.0)) ∙ t.1)

  pub opened : Opened (view b) (view (with_new b x))
  opened =
      row_opened b x room (ap (λ z. z.margin) (made-open b r x e))
      (rw (opened-new b x room) at (after.shaped.sorts b.count s.shaped.some (omega arith))) its-tm

  pub open-deemed : (tenths : Bool) (under : List ℕ) → DeemedUnder (view_as tenths (view b)) under → DeemedUnder (view_as tenths (view (with_new b x))) under
  open-deemed tenths under h = under-open (view_as tenths (view b)) (view_as tenths (view (with_new b x))) (opened_in tenths opened) (shaped_in tenths s.shaped) under h

  -- K2: a look after it is a look before it
  pub open-looks : (modes : List Bool) → looked (view (with_new b x)) modes ≡ looked (view b) modes
  open-looks modes =
      look-open (view b) (view (with_new b x)) opened s.shaped (none-beyond b (sound-rows b s)) (none-beyond (changed_by b r.account (Open x)) after) modes

  -- K3: the needs worked out after it are those before it
  pub open-needs : needs_afresh (view (with_new b x)) ≡ needs_afresh (view b)
  open-needs =
      needs-open (view b) (view (with_new b x)) opened s.shaped (none-beyond b (sound-rows b s)) (none-beyond (changed_by b r.account (Open x)) after)
