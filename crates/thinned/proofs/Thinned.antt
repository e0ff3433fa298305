-- A book without rows that are not live, and what it keeps: who is live, needs, who has live clients.
use mathlib.Core.Bool.{Bool, true, false, and-false}
use mathlib.Core.Path.{◌≡◌, refl, sym, ap, ◌∙◌}
use Prim.Native.Nat.{ℕ, ◌≤◌, ◌<◌}
use native.Mathlib.Omega.{arith}
use native.Mathlib.Decide.{ℕ_discrete}
use lib.Dec.{eqb, ltb}
use borrow.Author.Tests.{lt-ltb, eq-eqb, ne_eqb}
use Rattle.sums.specs.Sum.{any}
use Rattle.sums.proofs.Choices.{test-clash}
use Rattle.rows.specs.declared.Book.{Book}
use Rattle.rows.specs.View.{blocked, need_cm, is_client_of}
use Rattle.rows.specs.Rows.{row_at, mode_at, number_at, collateral, places, view, with_row, with_margin, is_live, is_live_client_of, has_live_client}
use Rattle.rows.proofs.RowPut.{row_same}
use Rattle.book.specs.Facts.{SoundRows}
use Rattle.book.proofs.RowFacts.{amounts→}
use Rattle.book.proofs.Differences.{row-changed}
use Rattle.rules.specs.Refusals.{need_passes}
use Rattle.gaps.specs.Gaps.{place_after, moved_row}
use Rattle.gaps.proofs.Places.{place_none, place-lt, place-apart}
use Rattle.thinned.proofs.KeptSums.{any-kept}
use Rattle.thinned.proofs.Dropped.{Dropped, same-client, need_cm-kept, need-kept}
use Rattle.thinned.proofs.DroppedPut.{dropped-put}

-- THE RELATION: c is b without the rows that are not kept, none of which is live
pub record Thinned (keep : ℕ → Bool) (b c : Book) : Type 0 where
  pub serial : c.serial ≡ b.serial
  pub next : c.next ≡ b.next
  pub count : c.count ≡ place_after keep b.count
  pub rows : (i : ℕ) → i < b.count → keep i ≡ true → row_at c (place_after keep i) ≡ moved_row keep (row_at b i)
  pub modes : (i : ℕ) → i < b.count → keep i ≡ true → mode_at c (place_after keep i) ≡ mode_at b i
  pub numbers : (i : ℕ) → i < b.count → keep i ≡ true → number_at c (place_after keep i) ≡ number_at b i
  pub top : keep 0 ≡ true
  -- a row opened from here on is kept
  pub beyond : (i : ℕ) → b.count ≤ i → keep i ≡ true
  pub tm-kept : (i : ℕ) → i < b.count → keep i ≡ true → (row_at b i).sort ≡ 2 → keep (row_at b i).tm ≡ true
  pub gone : (i : ℕ) → i < b.count → keep i ≡ false → (row_at b i).live ≡ false

module _ {keep : ℕ → Bool} {b c : Book} (s : SoundRows b) (d : Thinned keep b c) where
  abbrev at : ℕ → ℕ
  at = place_after keep

  -- a row that isn't live has no margin
  no-margin : (i : ℕ) → i < b.count → (row_at b i).live ≡ false → (row_at b i).margin ≡ 0
  no-margin i l e = (amounts→ (row_at b i) (s.retired i l e)).margin

  -- a client of a row that isn't kept isn't live
  pub lost-client : (i : ℕ) → i < b.count → (row_at b i).sort ≡ 2 → keep (row_at b i).tm ≡ false → (row_at b i).live ≡ false
  lost-client i l e g = by (row_at b i).live refl
    where
      tm-below : (row_at b i).tm < b.count
      tm-below = omega (arith, (s.shaped.tms i l e).0)

      by : (t : Bool) → (row_at b i).live ≡ t → (row_at b i).live ≡ false
      by true q = test-clash (s.tm-live i l e q) (d.gone (row_at b i).tm tm-below g)
      by false q = q

  pub dropped : Dropped keep (view b) (view c)
  dropped = record {
    count = d.count;
    sort = λ i l e. ap (λ r. r.sort) (d.rows i l e);
    margin = λ i l e. ap (λ r. r.margin) (d.rows i l e);
    collateral = λ i l e. ap collateral (d.rows i l e);
    tm = λ i l e q. ap (λ r. r.tm) (d.rows i l e);
    tm-kept = d.tm-kept;
    gone = λ i l e. no-margin i l (d.gone i l e);
    gone-clients = λ i l e g. no-margin i l (lost-client i l e g);
  }

  some : 0 < b.count
  some = s.shaped.some

  module _ (i : ℕ) (l : i < b.count) (k : keep i ≡ true) where
    pub inside : at i < c.count
    inside = omega (arith, place-lt keep i b.count k l, d.count)

    pub same_live : is_live c (at i) ≡ is_live b i
    same_live = rw (lt-ltb _ _ inside, lt-ltb _ _ l) (ap (λ r. r.live) (d.rows i l k))

    pub same-top : eqb (at i) 0 ≡ eqb i 0
    same-top = by (ℕ_discrete i 0)
      where
        by : Dec (i ≡ 0) → eqb (at i) 0 ≡ eqb i 0
        by (yes e) = eq-eqb _ _ (ap at e ∙ place_none keep) ∙ sym (eq-eqb _ _ e)
        by (no e) = ne_eqb _ _ (λ q. place-apart keep i 0 k d.top e (q ∙ sym (place_none keep))) ∙ sym (ne_eqb _ _ e)

    pub same-blocked : blocked (view c) (at i) ≡ blocked (view b) i
    same-blocked = rw (need-kept keep (view b) (view c) dropped i l k some d.top, dropped.collateral i l k)

    -- a kept account has a live client where it had one
    pub same-live-client : has_live_client c (at i) ≡ has_live_client b i
    unfolding has_live_client
    same-live-client =
        ap (λ n. any n (is_live_client_of c (at i))) d.count
        ∙ any-kept keep b.count (is_live_client_of b i) (is_live_client_of c (at i))
        (λ j m e. rw (same-client keep (view b) (view c) dropped i j k m e, d.rows j m e))
        (λ j m e. rw (d.gone j m e) (and-false (is_client_of (view b) i j)))

    -- 13's test: the CM's need passes its collateral after the account's margin is x
    pub same-passes : (x : ℕ) → i < 256 → at i < 256 → SoundRows c
        → need_passes (view (with_row c (at i) (with_margin (row_at c (at i)) x))) ≡ need_passes (view (with_row b i (with_margin (row_at b i) x)))
    same-passes x li la t =
        let li' : i < places b = omega (arith, s.table) in
        let la' : at i < places c = omega (arith, t.table) in
        let b' = with_row b i (with_margin (row_at b i) x) in
        let c' = with_row c (at i) (with_margin (row_at c (at i)) x) in
        let after : Dropped keep (view b') (view c') = dropped-put keep (view b) (view c) (view b') (view c') dropped i k
        (row-changed b i (with_margin (row_at b i) x) li' l refl refl) (row-changed c (at i) (with_margin (row_at c (at i)) x) la' inside refl refl)
        (rw (row_same b i (with_margin (row_at b i) x) li', row_same c (at i) (with_margin (row_at c (at i)) x) la'))
        (rw (row_same b i (with_margin (row_at b i) x) li', row_same c (at i) (with_margin (row_at c (at i)) x) la') (dropped.collateral i l k)) in
        rw (need_cm-kept keep (view b') (view c') after some d.top)
        (ap (λ y. ltb y (need_cm (view b'))) (ap (view c').collateral (sym (place_none keep)) ∙ after.collateral 0 some d.top))
