-- What the table of refusals says of r(x): a book's limits, code by code.
use mathlib.Core.Bool.{Bool, true, false, not, ◌&&◌}
use mathlib.Core.List.{List, [], ◌∷◌}
use mathlib.Core.Logic.{inl, inr}
use mathlib.Core.Path.{◌≡◌, refl, sym, ap, ◌∙◌}
use Prim.Native.Nat.{ℕ, ◌+◌, ◌-◌, ◌≤◌, ◌<◌, min}
use native.Mathlib.Omega.{arith}
use lib.Dec.{leb, ltb, eqb}
use borrow.Author.Tests.{ltb-true, ltb-false, leb-true, leb-false, lt-ltb, le-ltb, le-leb, eq-eqb}
use Rattle.sums.specs.Choice.{pick}
use Rattle.sums.specs.Sum.{only}
use Rattle.sums.specs.Table.{Line, ◌when◌, first}
use Rattle.sums.proofs.Choices.{pick_yes, pick_no, and_split, and_left}
use Rattle.sums.proofs.Tables.{first-later, first_on, none-gives-0}
use Rattle.rows.specs.declared.Kinds.{Kinds}
use Rattle.rows.specs.declared.Row.{Row}
use Rattle.rows.specs.declared.Book.{Book}
use Rattle.rows.specs.declared.Rule.TheVariants.{New}
use Rattle.rows.specs.View.{need, blocked, free}
use Rattle.rows.specs.Rows.{ceiling, counted, mode_at, collateral, view, plus_kinds, less_kinds, with_allocated, with_pledged, with_margin, with_row, is_live}
use Rattle.rows.specs.Ranges.{kinds_capped, kinds_within}
use Rattle.rows.specs.Facts.{InRange}
use Rattle.book.specs.Sound.{sound_b}
use Rattle.book.specs.Facts.{Sound}
use Rattle.book.proofs.SoundTest.{sound←}
use Rattle.dayfile.specs.declared.Record.{Record}
use Rattle.dayfile.specs.Records.{known_code, suits, good_amounts, faults, fault_of}
use Rattle.dayfile.proofs.Good.{past-faults}
use Rattle.rules.specs.Refusals.{named_row, need_passes, beside_of, from8, refusal_of}
use Rattle.codes.specs.Own.{left_lines}
use Rattle.codes.proofs.Lines.{receive-own, left-own, release-own, pledge-own, unpledge-own, margin-own, none-own}
use Rattle.passing.specs.declared.limits.Limits.{Limits}
use Rattle.passing.specs.Most.{with_amount, least_of, has_amount, names_one}
use Rattle.passing.specs.Inner.{kind_named, face_for, takeable, raisable, up_to, limits_in, refusal_at}
use Rattle.passing.proofs.Faces.{face-enough, face-least}
use Rattle.passing.proofs.Names.{Kind, cash, deposits, guarantees, securities, Names, receives, hands_back, allocates, releases, pledges, unpledges, sets_margin, sets_pledged, revises_margin, amount-known, names_of}
use Rattle.passing.proofs.Raised.{raised-passes}

-- ---- tests

not-leb : (x k : ℕ) → not (leb x k) ≡ ltb k x
not-leb x k = by (leb x k) refl
  where
    by : (t : Bool) → leb x k ≡ t → not t ≡ ltb k x
    by true e = sym (le-ltb k x (leb-true x k e))
    by false e = sym (lt-ltb k x (leb-false x k e))

-- two tests that hold at the same time
same_test : (a b c d : ℕ) → (a < b → c < d) → (b ≤ a → d ≤ c) → ltb a b ≡ ltb c d
same_test a b c d h k = by (ltb a b) refl
  where
    by : (t : Bool) → ltb a b ≡ t → t ≡ ltb c d
    by true e = sym (lt-ltb c d (h (ltb-true a b e)))
    by false e = sym (le-ltb c d (k (ltb-false a b e)))

-- of four tests one decides
one_of : (p : Bool) {q r t : Bool} → q ≡ true → r ≡ true → t ≡ true → (p && q && r && t) ≡ p
one_of p e f g = rw (e, f, g) (by p)
  where
    by : (p : Bool) → (p && true && true && true) ≡ p
    by true = refl
    by false = refl

two-of : {p : Bool} (q : Bool) {r t : Bool} → p ≡ true → r ≡ true → t ≡ true → (p && q && r && t) ≡ q
two-of q e f g = rw (e, f, g) (by q)
  where
    by : (q : Bool) → (true && q && true && true) ≡ q
    by true = refl
    by false = refl

three-of : {p q : Bool} (r : Bool) {t : Bool} → p ≡ true → q ≡ true → t ≡ true → (p && q && r && t) ≡ r
three-of r e f g = rw (e, f, g) (by r)
  where
    by : (r : Bool) → (true && true && r && true) ≡ r
    by true = refl
    by false = refl

four-of : {p q r : Bool} (t : Bool) → p ≡ true → q ≡ true → r ≡ true → (p && q && r && t) ≡ t
four-of t e f g = rw (e, f, g)

-- ---- one kind named

abbrev kinds_with : ℕ → ℕ → Kinds
kinds_with named x = record {
  cash = only (eqb named 1) x;
  deposits = only (eqb named 2) x;
  guarantees = only (eqb named 4) x;
  securities = only (eqb named 8) x;
}

within-named : (named x : ℕ) (k : Kinds) → Kind named → kinds_within (kinds_with named x) k ≡ leb x (kind_named named k)
unfolding pick
within-named named x k (cash e) = rw e (one_of _ (le-leb 0 k.deposits (omega arith)) (le-leb 0 k.guarantees (omega arith)) (le-leb 0 k.securities (omega arith)))
within-named named x k (deposits e) = rw e (two-of _ (le-leb 0 k.cash (omega arith)) (le-leb 0 k.guarantees (omega arith)) (le-leb 0 k.securities (omega arith)))
within-named named x k (guarantees e) = rw e (three-of _ (le-leb 0 k.cash (omega arith)) (le-leb 0 k.deposits (omega arith)) (le-leb 0 k.securities (omega arith)))
within-named named x k (securities e) = rw e (four-of _ (le-leb 0 k.cash (omega arith)) (le-leb 0 k.deposits (omega arith)) (le-leb 0 k.guarantees (omega arith)))

left-named : (named : ℕ) (a c : Kinds) → Kind named → kind_named named (less_kinds a c) ≡ kind_named named a - kind_named named c
unfolding pick
left-named named a c (cash e) = rw e
left-named named a c (deposits e) = rw e
left-named named a c (guarantees e) = rw e
left-named named a c (securities e) = rw e

-- past the ceiling: a and x together
past : (a x : ℕ) → a ≤ ceiling → not (leb (a + x) ceiling) ≡ ltb (ceiling - a) x
past a x l = not-leb (a + x) ceiling ∙ same_test ceiling (a + x) (ceiling - a) x (λ h. omega arith) (λ h. omega arith)

room : (a : ℕ) → a ≤ ceiling → leb (a + 0) ceiling ≡ true
room a l = le-leb (a + 0) ceiling (omega arith)

capped-named : (named x : ℕ) (row : Row) → InRange row → Kind named
    → not (kinds_capped (plus_kinds row.received (kinds_with named x))) ≡ ltb (ceiling - kind_named named row.received) x
unfolding pick
capped-named named x row h (cash e) =
    let k = row.received in
    rw e (ap not (one_of (leb (k.cash + x) ceiling) (room k.deposits h.received.1) (room k.guarantees h.received.2) (room k.securities h.received.3)) ∙ past k.cash x h.received.0)
capped-named named x row h (deposits e) =
    let k = row.received in
    rw e (ap not (two-of (leb (k.deposits + x) ceiling) (room k.cash h.received.0) (room k.guarantees h.received.2) (room k.securities h.received.3)) ∙ past k.deposits x h.received.1)
capped-named named x row h (guarantees e) =
    let k = row.received in
    rw e (ap not (three-of (leb (k.guarantees + x) ceiling) (room k.cash h.received.0) (room k.deposits h.received.1) (room k.securities h.received.3)) ∙ past k.guarantees x h.received.2)
capped-named named x row h (securities e) =
    let k = row.received in
    rw e (ap not (four-of (leb (k.securities + x) ceiling) (room k.cash h.received.0) (room k.deposits h.received.1) (room k.guarantees h.received.2)) ∙ past k.securities x h.received.3)

-- ---- what is left of collateral (K7)

-- c falls to c' by x; so much of it is blocked
spare-falls : (n c c' x : ℕ) → c ≡ c' + x → ltb c' (min n c) ≡ ltb (c - min n c) x
spare-falls n c c' x e = same_test c' (min n c) (c - min n c) x (λ h. omega arith) (λ h. omega arith)

-- government securities of face s fall by x, the rest of the collateral is a, and of the whole so much is blocked
module _ (a s x held : ℕ) (l : x ≤ s) (m : held ≤ a + counted New s) where
  abbrev worth : ℕ
  worth = counted New s - (a + counted New s - held)

  least : face_for worth ≤ s
  least = face-least worth s (omega arith)

  above : a + counted New (s - x) < held → s - face_for worth < x
  above h = out (ltb (s - face_for worth) x) refl
    where
      out : (t : Bool) → ltb (s - face_for worth) x ≡ t → s - face_for worth < x
      out true e = ltb-true (s - face_for worth) x e
      out false e =
          let q = ltb-false (s - face_for worth) x e in
          let k = face-enough worth (s - x) (omega (arith, least)) in
          absurd (omega (arith, h, k))

  below : held ≤ a + counted New (s - x) → x ≤ s - face_for worth
  below h = let k = face-least worth (s - x) (omega arith) in omega (arith, k, l)

  securities-fall : ltb (a + counted New (s - x)) held ≡ ltb (s - face_for worth) x
  securities-fall = same_test (a + counted New (s - x)) held (s - face_for worth) x above below

whole-face : (s : ℕ) → counted New (s - 0) ≡ counted New s
whole-face s = ap (counted New) (omega arith)

-- 12's test of a release
taken-named : (named x n : ℕ) (row : Row) → Kind named → x ≤ kind_named named row.allocated
    → ltb (collateral (with_allocated row (less_kinds row.allocated (kinds_with named x)))) (min n (collateral row))
    ≡ ltb (takeable named row (collateral row - min n (collateral row))) x
unfolding pick
taken-named named x n row (cash e) l =
    rw e (let q : x ≤ row.allocated.cash = rw e at l in spare-falls n (collateral row) (collateral (with_allocated row (less_kinds row.allocated (kinds_with 1 x)))) x (omega (arith, whole-face row.allocated.securities)))
taken-named named x n row (deposits e) l =
    rw e (let q : x ≤ row.allocated.deposits = rw e at l in spare-falls n (collateral row) (collateral (with_allocated row (less_kinds row.allocated (kinds_with 2 x)))) x (omega (arith, whole-face row.allocated.securities)))
taken-named named x n row (guarantees e) l =
    rw e (let q : x ≤ row.allocated.guarantees = rw e at l in spare-falls n (collateral row) (collateral (with_allocated row (less_kinds row.allocated (kinds_with 4 x)))) x (omega (arith, whole-face row.allocated.securities)))
taken-named named x n row (securities e) l =
    let a = row.allocated in
    rw e (ap (λ z. ltb (z + counted New (a.securities - x)) (min n (collateral row))) (omega arith)
    ∙ securities-fall (a.cash + a.deposits + a.guarantees + row.pledged) a.securities x (min n (collateral row)) (rw e at l) (omega arith))

-- and of an unpledge
unpledged : (x n : ℕ) (row : Row) → x ≤ row.pledged
    → ltb (collateral (with_pledged row (row.pledged - x))) (min n (collateral row)) ≡ ltb (collateral row - min n (collateral row)) x
unpledged x n row l = spare-falls n (collateral row) (collateral (with_pledged row (row.pledged - x))) x (omega arith)

-- ---- the record

abbrev record_with : ℕ → ℕ → ℕ → ℕ → ℕ → Record
record_with serial code named account x = record {
  serial = serial;
  code = code;
  named = named;
  account = account;
  kinds = kinds_with named x;
  pledged = only (eqb named 16) x;
  margin = only (eqb named 32) x;
}

-- an amount that is named, between the least and the ceiling
module _ (serial account x : ℕ) (high : x ≤ ceiling) where
  kind-good : (code named : ℕ) → 1 ≤ x → Kind named → good_amounts (record_with serial code named account x) ≡ true
  kind-good code named l (cash e) = rw (e, le-leb 1 x l, le-leb x ceiling high)
  kind-good code named l (deposits e) = rw (e, le-leb 1 x l, le-leb x ceiling high)
  kind-good code named l (guarantees e) = rw (e, le-leb 1 x l, le-leb x ceiling high)
  kind-good code named l (securities e) = rw (e, le-leb 1 x l, le-leb x ceiling high)

  some : (code k : ℕ) → code ≡ k → least_of k ≡ 1 → least_of code ≤ x → 1 ≤ x
  some code k e q low = omega (arith, ap least_of e)

  amount-good : (code named : ℕ) → Names code named → least_of code ≤ x → good_amounts (record_with serial code named account x) ≡ true
  unfolding pick
  amount-good code named (receives e k) low = kind-good code named (some code 4 e refl low) k
  amount-good code named (hands_back e k) low = kind-good code named (some code 5 e refl low) k
  amount-good code named (allocates e k) low = kind-good code named (some code 6 e refl low) k
  amount-good code named (releases e k) low = kind-good code named (some code 7 e refl low) k
  amount-good code named (pledges e k) low = rw (e, k, le-leb 1 x (some code 8 e refl low), le-leb x ceiling high)
  amount-good code named (unpledges e k) low = rw (e, k, le-leb 1 x (some code 9 e refl low), le-leb x ceiling high)
  amount-good code named (sets_margin e k) low = rw (e, k, le-leb 0 x (omega arith), le-leb x ceiling high)
  amount-good code named (sets_pledged e k) low = rw (e, k, le-leb 0 x (omega arith), le-leb x ceiling high)
  amount-good code named (revises_margin e k) low = rw (e, k, le-leb 0 x (omega arith), le-leb x ceiling high)

no-fault : (r : Record) → known_code r.code ≡ true → suits r.code r.named ≡ true → good_amounts r ≡ true → fault_of r ≡ 0
unfolding fault_of
no-fault r a b c = none-gives-0 (faults r) (ap not a, (ap not b, (ap not c, tt)))

-- ---- the table

-- one bound alone
up-to-at : (n k x : ℕ) → x ≤ ceiling → refusal_at (up_to n k) x ≡ first ((n when ltb k x) ∷ [])
unfolding refusal_at first pick
up-to-at n k x h = rw (le-ltb ceiling x h)

-- three
three-at : (n k x t : ℕ) (on p q : Bool) → p ≡ ltb k x → (p ≡ false → q ≡ ltb t x)
    → first ((n when p) ∷ (17 when on) ∷ (12 when q) ∷ []) ≡ refusal_at (record { number = n; within = k; held = on; spare = t }) x
unfolding refusal_at
three-at n k x t on p q e h =
    first_on n p _ _ (λ f. first_on 17 on _ _ (λ g. ap (λ z. first ((12 when z) ∷ [])) (h f)))
    ∙ ap (λ z. first ((n when z) ∷ (17 when on) ∷ (12 when ltb t x) ∷ [])) e

module _ (b : Book) (s : Sound b) (r : Record) (live : is_live b r.account ≡ true) (x : ℕ) (high : x ≤ ceiling) where
  abbrev asked : Record
  asked = with_amount b r x

  abbrev i : ℕ
  i = r.account

  abbrev row : Row
  row = named_row b r

  abbrev limits : Limits
  limits = limits_in b i r.code r.named

  inside : i < b.count
  inside = ltb-true i b.count (and_split (ltb i b.count) row.live live).0

  range : InRange row
  range = s.ranges i inside

  abbrev lines : List Line
  lines = from8 row b.count b.next (beside_of b asked) asked

  past-seven : fault_of asked ≡ 0 → refusal_of b asked ≡ first lines
  unfolding refusal_of
  past-seven f =
      first-later 1 (not (sound_b b)) _ (ap not (sound← b s))
      ∙ first-later 3 (not (eqb b.serial b.serial)) _ (ap not (eq-eqb b.serial b.serial refl))
      ∙ past-faults asked _ f
      ∙ first-later 7 (not (is_live b r.account)) _ (ap not live)

  -- the limits of a code that is known
  limits-at : (k : ℕ) → r.code ≡ k → refusal_at (limits_in b i k r.named) x ≡ refusal_at limits x
  limits-at k e = ap (λ c. refusal_at (limits_in b i c r.named) x) (sym e)

  by-receive : r.code ≡ 4 → Kind r.named → first lines ≡ refusal_at limits x
  unfolding pick
  by-receive e k =
      receive-own row b.count b.next (beside_of b asked) asked e ∙ ap (λ t. first ((10 when t) ∷ [])) (capped-named r.named x row range k)
      ∙ sym (up-to-at 10 (ceiling - kind_named r.named row.received) x high) ∙ limits-at 4 e

  of_left : Kind r.named → first (left_lines row asked.kinds) ≡ refusal_at (up_to 11 (kind_named r.named row.received - kind_named r.named row.allocated)) x
  of_left k =
      ap (λ t. first ((11 when not t) ∷ [])) (within-named r.named x (less_kinds row.received row.allocated) k ∙ ap (leb x) (left-named r.named row.received row.allocated k))
      ∙ ap (λ t. first ((11 when t) ∷ [])) (not-leb x (kind_named r.named row.received - kind_named r.named row.allocated))
      ∙ sym (up-to-at 11 (kind_named r.named row.received - kind_named r.named row.allocated) x high)

  by-hand-back : r.code ≡ 5 → Kind r.named → first lines ≡ refusal_at limits x
  unfolding pick
  by-hand-back e k = left-own row b.count b.next (beside_of b asked) asked (inl e) ∙ of_left k ∙ limits-at 5 e

  by-allocate : r.code ≡ 6 → Kind r.named → first lines ≡ refusal_at limits x
  unfolding pick
  by-allocate e k = left-own row b.count b.next (beside_of b asked) asked (inr e) ∙ of_left k ∙ limits-at 6 e

  by-release : r.code ≡ 7 → Kind r.named → first lines ≡ refusal_at limits x
  unfolding pick
  by-release e k =
      release-own row b.count b.next (beside_of b asked) asked e
      ∙ three-at 11 (kind_named r.named row.allocated) x (takeable r.named row (free (view b) i)) (mode_at b i) _ _ enough
      (λ f. ap (λ z. ltb (collateral z) (blocked (view b) i)) (pick_yes (eqb r.code 7) _ _ (eq-eqb r.code 7 e))
      ∙ taken-named r.named x (need (view b) i) row k (ltb-false (kind_named r.named row.allocated) x (sym enough ∙ f)))
      ∙ limits-at 7 e
    where
      enough : not (kinds_within asked.kinds row.allocated) ≡ ltb (kind_named r.named row.allocated) x
      enough = ap not (within-named r.named x row.allocated k) ∙ not-leb x (kind_named r.named row.allocated)

  -- the amount that is named
  is-pledged : r.named ≡ 16 → asked.pledged ≡ x
  is-pledged e = rw e

  is-margin : r.named ≡ 32 → asked.margin ≡ x
  is-margin e = rw e

  by-pledge : r.code ≡ 8 → r.named ≡ 16 → first lines ≡ refusal_at limits x
  unfolding pick
  by-pledge e k =
      pledge-own row b.count b.next (beside_of b asked) asked e
      ∙ ap (λ t. first ((10 when t) ∷ [])) (ap (λ y. ltb ceiling (row.pledged + y)) (is-pledged k)
      ∙ same_test ceiling (row.pledged + x) (ceiling - row.pledged) x (λ h. omega (arith, range.pledged)) (λ h. omega (arith, range.pledged)))
      ∙ sym (up-to-at 10 (ceiling - row.pledged) x high) ∙ limits-at 8 e

  by-unpledge : r.code ≡ 9 → r.named ≡ 16 → first lines ≡ refusal_at limits x
  unfolding pick
  by-unpledge e k =
      unpledge-own row b.count b.next (beside_of b asked) asked e
      ∙ three-at 11 row.pledged x (free (view b) i) (mode_at b i) _ _ enough
      (λ f. ap (λ z. ltb (collateral z) (blocked (view b) i)) (pick_no (eqb r.code 7) _ _ (rw e) ∙ ap (λ y. with_pledged row (row.pledged - y)) (is-pledged k))
      ∙ unpledged x (need (view b) i) row (ltb-false row.pledged x (sym enough ∙ f)))
      ∙ limits-at 9 e
    where
      enough : ltb row.pledged asked.pledged ≡ ltb row.pledged x
      enough = ap (ltb row.pledged) (is-pledged k)

  by-margin : r.code ≡ 10 → r.named ≡ 32 → first lines ≡ refusal_at limits x
  unfolding pick
  by-margin e k =
      margin-own row b.count b.next (beside_of b asked) asked e
      ∙ ap (λ t. first ((13 when t) ∷ [])) (ap (λ y. ltb row.margin y && need_passes (view (with_row b i (with_margin row y)))) (is-margin k) ∙ raised-passes b s i inside x)
      ∙ sym (up-to-at 13 (raisable (view b) i) x high) ∙ limits-at 10 e

  none : first [] ≡ refusal_at (up_to 13 ceiling) x
  unfolding first pick
  none = sym (up-to-at 13 ceiling x high ∙ rw (le-ltb ceiling x high))

  by-set-pledged : r.code ≡ 12 → first lines ≡ refusal_at limits x
  unfolding pick
  by-set-pledged e = none-own row b.count b.next (beside_of b asked) asked (inl e) ∙ none ∙ limits-at 12 e

  by-set-margin : r.code ≡ 13 → first lines ≡ refusal_at limits x
  unfolding pick
  by-set-margin e = none-own row b.count b.next (beside_of b asked) asked (inr e) ∙ none ∙ limits-at 13 e

  -- THE LAW
  from-eight : Names r.code r.named → first lines ≡ refusal_at limits x
  from-eight (receives e k) = by-receive e k
  from-eight (hands_back e k) = by-hand-back e k
  from-eight (allocates e k) = by-allocate e k
  from-eight (releases e k) = by-release e k
  from-eight (pledges e k) = by-pledge e k
  from-eight (unpledges e k) = by-unpledge e k
  from-eight (sets_margin e k) = by-margin e k
  from-eight (sets_pledged e k) = by-set-pledged e
  from-eight (revises_margin e k) = by-set-margin e

  pub at-limits : has_amount r.code ≡ true → names_one r.code r.named ≡ true → least_of r.code ≤ x → refusal_of b asked ≡ refusal_at limits x
  at-limits h n low =
      let k = names_of r.code r.named h n in
      past-seven (no-fault asked (amount-known r.code h) (and_left (suits r.code r.named) _ n) (amount-good b.serial r.account x high r.code r.named k low)) ∙ from-eight k
