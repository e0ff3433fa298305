-- The sums of needs a row at a time, the most that one account adds, and what a client adds to which place.
use mathlib.Core.Path.{◌≡◌, refl, sym, ap, ◌∙◌}
use mathlib.Core.Bool.{Bool, true, false, ◌&&◌, and-false}
use mathlib.Core.List.{List}
use Prim.Native.Nat.{ℕ, ◌+◌, ◌-◌, ◌*◌, ◌≤◌, ◌<◌}
use native.Mathlib.Omega.{arith}
use native.Mathlib.Decide.{dec_lt, ℕ_discrete}
use lib.Dec.{eqb, ltb}
use lib.ListN.{length, get_or, set}
use lib.Seq.{get_or-set_same, get_or-set_other}
use borrow.Author.Tests.{eq-eqb, ne_eqb, lt-ltb, le-ltb}
use Rattle.sums.specs.Sum.{sum, only}
use Rattle.sums.proofs.Choices.{pick_no}
use Rattle.sums.proofs.Sums.{sum_step, only-most}
use Rattle.rows.specs.declared.Account.{Account}
use Rattle.rows.specs.View.{View, is_cm, is_tm, is_client_of, own_deemed, deemed_of, deemed_tm, need_tm, need_cm, need, members}
use Rattle.rows.specs.DeemedUnder.{account_at, client_due, member_due, deemed_under_tm, deemed_under_cm}
use Rattle.rows.specs.Inner.{Slot, clients_below, members_below}

pub clients-none : (v : View) (t : ℕ) → clients_below v t 0 ≡ 0
unfolding clients_below sum
clients-none v t = refl

pub clients-step : (v : View) (t n : ℕ) → clients_below v t (n + 1) ≡ clients_below v t n + only (is_client_of v t n) (own_deemed v n)
unfolding clients_below
clients-step v t n = sum_step n (λ i. only (is_client_of v t i) (own_deemed v i))

pub members-none : (v : View) → members_below v 0 ≡ 0
unfolding members_below sum
members-none v = refl

-- a TM's clients come in by the sum of those below the number of accounts
pub members_step : (v : View) (n : ℕ) → members_below v (n + 1) ≡ members_below v n + member_due (account_at v n) (clients_below v n v.count)
unfolding members_below clients_below need_tm
members_step v n = sum_step n (members v (deemed_tm v) (own_deemed v))

-- no more than the margin
pub due-most : (a : Account) → client_due a ≤ a.margin
due-most a = omega (arith, only-most (eqb a.sort 2 && ltb a.tm 256) (deemed_of a.margin a.collateral))

-- no more than the margin twice and what is under it
pub member-most : (a : Account) (d : ℕ) → member_due a d ≤ 2 * a.margin + d
member-most a d =
    omega (
      arith,
      only-most (eqb a.sort 1) (deemed_of (a.margin + d) a.collateral),
      only-most (eqb a.sort 3) (deemed_of a.margin a.collateral),
    )

-- what is deemed under the CM after a change
pub deemed-under-cm-most : (old new tm : Account) (under clients all : ℕ)
    → deemed_under_cm old new under tm clients all ≤ all + clients + under + 3 * new.margin + 2 * tm.margin
deemed-under-cm-most old new tm under clients all = omega (arith, member-most new under, member-most tm (deemed_under_tm old new clients), due-most new)

-- nothing moves under the TM of an account that is no client
pub no-client-moves : (old new tm : Account) (under clients all : ℕ) → eqb old.sort 2 ≡ false → eqb new.sort 2 ≡ false
    → all + member_due new under - member_due old under ≡ deemed_under_cm old new under tm clients all
no-client-moves old new tm under clients all p q =
    let e : deemed_under_tm old new clients ≡ clients = rw (p, q) (omega arith) in
    let f : member_due tm (deemed_under_tm old new clients) ≡ member_due tm clients = ap (member_due tm) e in
    omega arith

pub need-cm-sum : (v : View) → need_cm v ≡ v.margin 0 + members_below v v.count
unfolding need_cm members_below
need-cm-sum v = refl

pub need-tm-sum : (v : View) (t : ℕ) → need_tm v t ≡ v.margin t + clients_below v t v.count
unfolding need_tm clients_below
need-tm-sum v t = refl

-- "for a client or CP, its margin"
pub need-own : (v : View) (i : ℕ) → 1 < v.sort i → need v i ≡ v.margin i
unfolding need
need-own v i l =
    pick_no (is_cm v i) _ _ (ne_eqb (v.sort i) 0 (λ e. omega arith)) ∙ pick_no (is_tm v i) _ _ (ne_eqb (v.sort i) 1 (λ e. omega arith))

-- one place of a list has d more
pub add_at : (l : List ℕ) (s d t : ℕ) → s < length l → get_or (set l s (get_or l s 0 + d)) t 0 ≡ get_or l t 0 + only (eqb s t) d
add_at l s d t h = by (ℕ_discrete t s)
  where
    by : Dec (t ≡ s) → get_or (set l s (get_or l s 0 + d)) t 0 ≡ get_or l t 0 + only (eqb s t) d
    by (yes e) = rw (e, eq-eqb s s refl) (get_or-set_same l s (get_or l s 0 + d) 0 h)
    by (no e) = rw (ne_eqb s t (λ p. e (sym p))) (omega (arith, get_or-set_other l s t (get_or l s 0 + d) 0 e))

only_none : (t : Bool) → only t 0 ≡ 0
only_none true = refl
only_none false = refl

-- at each place of the table, what a client of it is deemed is what the account adds there
pub due-at : (r : Account) (s t : ℕ) → t < 256 → Slot r.tm s
    → only (eqb r.sort 2 && eqb r.tm t) (deemed_of r.margin r.collateral) ≡ only (eqb s t) (client_due r)
due-at r s t l slot = by (dec_lt r.tm 256)
  where
    x : ℕ
    x = deemed_of r.margin r.collateral

    apart : (a : Bool) → only (a && eqb r.tm t) x ≡ only (eqb r.tm t) (only (a && true) x)
    apart true = refl
    apart false = sym (only_none (eqb r.tm t))

    by : Dec (r.tm < 256) → only (eqb r.sort 2 && eqb r.tm t) x ≡ only (eqb s t) (client_due r)
    by (yes p) = rw (slot.named p, lt-ltb r.tm 256 p) (apart (eqb r.sort 2))
    by (no p) =
        let far : 256 ≤ r.tm = omega arith in
        let other : eqb r.tm t ≡ false = ne_eqb r.tm t (λ q. omega arith) in
        rw (other, le-ltb r.tm 256 far, and-false) (sym (only_none (eqb s t)))
