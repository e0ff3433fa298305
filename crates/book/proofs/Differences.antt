-- The exact difference of each need where one row's amounts change.
use mathlib.Core.Path.{◌≡◌, refl, sym, ◌∙◌, ap}
use mathlib.Core.Bool.{Bool, false}
use Prim.Native.Nat.{ℕ, ◌+◌, ◌<◌}
use native.Mathlib.Omega.{arith}
use native.Mathlib.Decide.{ℕ_discrete}
use lib.Dec.{eqb}
use borrow.Author.Tests.{ne_eqb}
use Rattle.sums.specs.Sum.{sum, only}
use Rattle.sums.proofs.Sums.{sum_one}
use Rattle.rows.specs.declared.Row.{Row}
use Rattle.rows.specs.declared.Book.{Book}
use Rattle.rows.specs.View.{View, is_client_of, members, of_clients, own_deemed, need_tm, deemed_tm, need_cm}
use Rattle.rows.specs.Facts.{Shaped}
use Rattle.rows.specs.Inner.{times, view_as}
use Rattle.rows.specs.Rows.{row_at, places, collateral, view, with_row}
use Rattle.rows.proofs.BySort.{client-of}
use Rattle.book.proofs.OneRow.{at_all, same-sort, same-tm}

-- the same accounts, with the same amounts but those of row k
pub record RowChanged (v w : View) (k : ℕ) : Type 0 where
  pub count : w.count ≡ v.count
  pub inside : k < v.count
  pub sort : (i : ℕ) → w.sort i ≡ v.sort i
  pub tm : (i : ℕ) → w.tm i ≡ v.tm i
  pub margin : (i : ℕ) → (i ≡ k → ⊥) → w.margin i ≡ v.margin i
  pub collateral : (i : ℕ) → (i ≡ k → ⊥) → w.collateral i ≡ v.collateral i

-- in tenths too
pub changed-in : (tenths : Bool) {v w : View} {k : ℕ} → RowChanged v w k → RowChanged (view_as tenths v) (view_as tenths w) k
changed-in tenths o = record {
  count = o.count;
  inside = o.inside;
  sort = o.sort;
  tm = o.tm;
  margin = λ i n. ap (times tenths 10) (o.margin i n);
  collateral = λ i n. ap (times tenths 9) (o.collateral i n);
}

pub row-changed : (b : Book) (k : ℕ) (r : Row) → k < places b → k < b.count → r.sort ≡ (row_at b k).sort → r.tm ≡ (row_at b k).tm
    → RowChanged (view b) (view (with_row b k r)) k
row-changed b k r l m ec et = record {
  count = refl;
  inside = m;
  sort = same-sort b k r l ec et;
  tm = same-tm b k r l ec et;
  margin = at_all (λ j x y. (j ≡ k → ⊥) → x.margin ≡ y.margin) b k r l (λ ne. absurd (ne refl)) (λ j ne. refl);
  collateral = at_all (λ j x y. (j ≡ k → ⊥) → collateral x ≡ collateral y) b k r l (λ ne. absurd (ne refl)) (λ j ne. refl);
}

-- what account i counts in t's need, and in the CM's
abbrev pub for_tm : View → ℕ → ℕ → ℕ
for_tm v t i = only (is_client_of v t i) (own_deemed v i)

abbrev pub for_cm : View → ℕ → ℕ
for_cm v = members v (deemed_tm v) (own_deemed v)

module _ (v w : View) (k : ℕ) (o : RowChanged v w k) where
  -- t's clients, up to row k's part
  pub clients-change : (t : ℕ) → of_clients w t (own_deemed w) + for_tm v t k ≡ of_clients v t (own_deemed v) + for_tm w t k
  clients-change t =
      omega (
        arith,
        ap (λ n. sum n (for_tm w t)) o.count,
        sum_one v.count (for_tm w t) (for_tm v t) k o.inside (λ i l ne. rw (o.sort i, o.tm i, o.margin i ne, o.collateral i ne)),
      )

  -- an account other than row k that has not row k for a client
  pub need_tm-aside : (t : ℕ) → (t ≡ k → ⊥) → is_client_of v t k ≡ false → need_tm w t ≡ need_tm v t
  unfolding need_tm
  need_tm-aside t ne e =
      omega (
        arith,
        o.margin t ne,
        clients-change t,
        ap (λ x. only x (own_deemed v k)) e,
        ap (λ x. only x (own_deemed w k)) (same ∙ e),
      )
    where
      same : is_client_of w t k ≡ is_client_of v t k
      same = rw (o.sort k, o.tm k)

  -- row k is a client: its TM's need moves by what it is deemed
  pub need_tm-client : v.sort k ≡ 2 → (v.tm k ≡ k → ⊥) → need_tm w (v.tm k) + own_deemed v k ≡ need_tm v (v.tm k) + own_deemed w k
  unfolding need_tm
  need_tm-client e ne =
      omega (
        arith,
        o.margin (v.tm k) ne,
        clients-change (v.tm k),
        ap (λ x. only x (own_deemed v k)) (client-of v (v.tm k) k e refl),
        ap (λ x. only x (own_deemed w k)) (client-of w (v.tm k) k (o.sort k ∙ e) (o.tm k)),
      )

  -- row k is a TM: its need moves by its margin
  pub need_tm-own : v.sort k ≡ 1 → need_tm w k + v.margin k ≡ need_tm v k + w.margin k
  unfolding need_tm
  need_tm-own e =
      omega (
        arith,
        clients-change k,
        ap (λ x. only x (own_deemed v k)) no-v,
        ap (λ x. only x (own_deemed w k)) no-w,
      )
    where
      no-v : is_client_of v k k ≡ false
      no-v = rw e

      no-w : is_client_of w k k ≡ false
      no-w = rw (o.sort k, e)

  -- the CM's need moves by its margin and by the one member h, beside which all members are as they were
  pub need_cm-change : (h : ℕ) → h < v.count → ((i : ℕ) → i < v.count → (i ≡ h → ⊥) → for_cm w i ≡ for_cm v i)
      → need_cm w + v.margin 0 + for_cm v h ≡ need_cm v + w.margin 0 + for_cm w h
  unfolding need_cm
  need_cm-change h l q =
      omega (
        arith,
        ap (λ n. sum n (for_cm w)) o.count,
        sum_one v.count (for_cm w) (for_cm v) h l q,
      )

  -- members other than row k, and than its TM where it is a client, are as they were
  member-aside : (i : ℕ) → (i ≡ k → ⊥) → is_client_of v i k ≡ false → for_cm w i ≡ for_cm v i
  member-aside i ne e = rw (need_tm-aside i ne e, o.sort i, o.margin i ne, o.collateral i ne)

  TM-counts : (u : View) {t : ℕ} → u.sort t ≡ 1 → for_cm u t ≡ deemed_tm u t
  TM-counts u e = rw e (omega arith)

  -- row k is a client: all through its TM
  pub need_cm-client : Shaped v → v.sort k ≡ 2 → need_cm w + deemed_tm v (v.tm k) ≡ need_cm v + deemed_tm w (v.tm k)
  need_cm-client s e =
      omega (
        arith,
        need_cm-change (v.tm k) (omega (arith, h.0, o.inside)) (λ i l ne. by i ne (ℕ_discrete i k)),
        o.margin 0 (λ q. omega (arith, h.0)),
        TM-counts v h.1,
        TM-counts w (o.sort (v.tm k) ∙ h.1),
      )
    where
      h : (v.tm k < k) × (v.sort (v.tm k) ≡ 1)
      h = s.tms k o.inside e

      by : (i : ℕ) → (i ≡ v.tm k → ⊥) → Dec (i ≡ k) → for_cm w i ≡ for_cm v i
      by i ne (yes q) = rw (q, o.sort k, e)
      by i ne (no q) = member-aside i q (rw (e, ne_eqb (v.tm k) i (λ r. ne (sym r))))

  -- row k is no client: by its margin where it is the CM, and by what it counts
  need_cm-here : eqb (v.sort k) 2 ≡ false → need_cm w + v.margin 0 + for_cm v k ≡ need_cm v + w.margin 0 + for_cm w k
  need_cm-here e = need_cm-change k o.inside (λ i l ne. member-aside i ne (rw e))

  not-CM : Shaped v → (v.sort k ≡ 0 → ⊥) → 0 ≡ k → ⊥
  not-CM s ne q = ne (sym (ap v.sort q) ∙ s.top)

  -- row k is a TM, a CP, the CM
  pub need_cm-tm : Shaped v → v.sort k ≡ 1 → need_cm w + deemed_tm v k ≡ need_cm v + deemed_tm w k
  need_cm-tm s e =
      omega (
        arith,
        need_cm-here (rw e),
        o.margin 0 (not-CM s (λ q. omega arith)),
        TM-counts v e,
        TM-counts w (o.sort k ∙ e),
      )

  pub need_cm-cp : Shaped v → v.sort k ≡ 3 → need_cm w + own_deemed v k ≡ need_cm v + own_deemed w k
  need_cm-cp s e =
      omega (
        arith,
        need_cm-here (rw e),
        o.margin 0 (not-CM s (λ q. omega arith)),
        counts v e,
        counts w (o.sort k ∙ e),
      )
    where
      counts : (u : View) → u.sort k ≡ 3 → for_cm u k ≡ own_deemed u k
      counts u e = rw e (omega arith)

  pub need_cm-own : v.sort k ≡ 0 → need_cm w + v.margin 0 ≡ need_cm v + w.margin 0
  need_cm-own e = omega (arith, need_cm-here (rw e), counts v e, counts w (o.sort k ∙ e))
    where
      counts : (u : View) → u.sort k ≡ 0 → for_cm u k ≡ 0
      counts u e = rw e
