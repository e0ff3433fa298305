-- What a record asks, by what is read of it: the first fault that its code meets, or the amounts that its code names.
use mathlib.Core.Bool.{Bool, true, false, not, ◌&&◌, ◌||◌, and-true}
use mathlib.Core.List.{List}
use mathlib.Core.Logic.{◌⊎◌, inl, inr, ⊎_elim}
use mathlib.Core.Path.{◌≡◌, refl, sym, ap, subst, ◌∙◌}
use Prim.Native.Nat.{ℕ, zero, suc, ◌≤◌, ◌<◌}
use native.Mathlib.Omega.{arith}
use native.Mathlib.Decide.{ℕ_discrete}
use lib.Count.{ones}
use lib.Dec.{eqb, leb}
use lib.ListN.{drop}
use borrow.Author.Tests.{eq-eqb, ne_eqb, leb-true, le-leb, eqb-true}
use Rattle.sums.specs.Choice.{pick, unless_refused}
use Rattle.sums.proofs.Choices.{refused-by, and_split, and-join, or_split, test-clash}
use Rattle.sums.proofs.Tables.{first-here, first-later, first_some, none-gives-0}
use Rattle.rows.specs.declared.Kinds.{Kinds}
use Rattle.numbers.specs.Bytes.{number}
use Rattle.dayfile.specs.declared.Record.{Record}
use Rattle.dayfile.specs.Records.{bit, known_code, suits, least_pledged, good_amount, good_amounts, faults, fault_of}
use Rattle.dayfile.specs.Reading.{size_of, got, past, record_of}
use Rattle.dayfile.specs.Taking.{mark_of}
use Rattle.dayfile.proofs.Apart.{zero-is-not-one}
use Rattle.dayfile.proofs.Judging.{no_other}
use Rattle.dayfile.proofs.Marks.{bit-lt}
use Rattle.rules.proofs.Codes.{Code, open_tm, open_client, open_cp, receive, hand_back, allocate, release, pledge, unpledge, margin, retire, set_pledged, set_margin, known-code-cases}
use Rattle.codes.specs.declared.asked.Asked.{Asked}
use Rattle.codes.specs.declared.asked.Asked.TheVariants.{Refused, Bare, One, Four}
use Rattle.codes.specs.Own.{early_number}
use Rattle.codes.specs.Asking.{names_kinds, names_one, names_margin, names_none, good_named, good_kinds, good_one, one_amount, asks_of, names_only, kind_of, meant, asked_of}
use Rattle.codes.specs.OneKind.{only_kind}
use Rattle.codes.proofs.Lines.{only-seven}

-- ---- the first fault

module _ (r : Record) where
  pub fault-4 : known_code r.code ≡ false → fault_of r ≡ 4
  unfolding fault_of
  fault-4 k = first-here 4 _ _ (ap not k)

  module _ (k : known_code r.code ≡ true) where
    pub fault-5 : suits r.code r.named ≡ false → fault_of r ≡ 5
    unfolding fault_of
    fault-5 s = first-later 4 _ _ (ap not k) ∙ first-here 5 _ _ (ap not s)

    module _ (s : suits r.code r.named ≡ true) where
      pub fault-6 : good_amounts r ≡ false → fault_of r ≡ 6
      unfolding fault_of
      fault-6 g = first-later 4 _ _ (ap not k) ∙ first-later 5 _ _ (ap not s) ∙ first-here 6 _ _ (ap not g)

      pub no-fault : good_amounts r ≡ true → fault_of r ≡ 0
      unfolding fault_of
      no-fault g = none-gives-0 (faults r) (ap not k, (ap not s, (ap not g, tt)))

-- ---- what is asked, where the serial is the one due

module _ (alive : Bool) (serial : ℕ) (r : Record) where
  by-early : (n : ℕ) → early_number alive serial r ≡ n → (n ≡ 0 → ⊥) → Refused n ≡ asked_of alive serial r
  unfolding asked_of
  by-early n e ne = refused-by n (asks_of r) Refused ne ∙ ap (λ k. unless_refused k (asks_of r) Refused) (sym e)

  pub other-serial : (r.serial ≡ serial → ⊥) → Refused 3 ≡ asked_of alive serial r
  unfolding early_number
  other-serial ne = by-early 3 (first-here 3 _ _ (ap not (ne_eqb _ _ ne))) (λ z. omega arith)

  pub early-asked : (n : ℕ) → n ≡ early_number alive serial r → (n ≡ 0 → ⊥) → Refused n ≡ asked_of alive serial r
  early-asked n e ne = by-early n (sym e) ne

  pub passed-asked : (n : ℕ) → n ≡ early_number alive serial r → n ≡ 0 → asks_of r ≡ asked_of alive serial r
  unfolding asked_of
  passed-asked n e z = ap (λ k. unless_refused k (asks_of r) Refused) (sym (sym e ∙ z))

  module _ (es : r.serial ≡ serial) where
    pub faulty : (n : ℕ) → fault_of r ≡ n → (n ≡ 0 → ⊥) → Refused n ≡ asked_of alive serial r
    unfolding early_number fault_of
    faulty n e ne = by-early n (first-later 3 _ _ (ap not (eq-eqb _ _ es)) ∙ first_some (faults r) _ (λ z. ne (sym e ∙ z)) ∙ e) ne

    pub dead-asked : fault_of r ≡ 0 → alive ≡ false → Refused 7 ≡ asked_of alive serial r
    unfolding pick
    dead-asked e a = by-early 7 (only-seven alive serial r es e ∙ rw a) (λ z. omega arith)

    pub live-asked : fault_of r ≡ 0 → alive ≡ true → asks_of r ≡ asked_of alive serial r
    unfolding pick
    live-asked e a = passed-asked 0 (sym (only-seven alive serial r es e ∙ rw a)) refl

-- ---- the codes by what they name

pub one-cases : (P : ℕ → Type 0) (c : ℕ) → names_one c ≡ true → P 8 → P 9 → P 10 → P 12 → P 13 → P c
one-cases P c h p8 p9 p10 p12 p13 = by (known-code-cases c known)
  where
    known : known_code c ≡ true
    known =
        let s = and_split (leb 8 c) (leb c 13) (and_split (leb 8 c && leb c 13) (not (eqb c 11)) h).0 in
        let l = leb-true 8 c s.0 in
        and-join (le-leb 1 c (omega arith)) s.1

    by : Code c → P c
    by (open_tm e) = test-clash h (ap names_one e)
    by (open_client e) = test-clash h (ap names_one e)
    by (open_cp e) = test-clash h (ap names_one e)
    by (receive e) = test-clash h (ap names_one e)
    by (hand_back e) = test-clash h (ap names_one e)
    by (allocate e) = test-clash h (ap names_one e)
    by (release e) = test-clash h (ap names_one e)
    by (pledge e) = subst P (sym e) p8
    by (unpledge e) = subst P (sym e) p9
    by (margin e) = subst P (sym e) p10
    by (retire e) = test-clash h (ap names_one e)
    by (set_pledged e) = subst P (sym e) p12
    by (set_margin e) = subst P (sym e) p13

none-cases : (P : ℕ → Type 0) (c : ℕ) → names_none c ≡ true → P 1 → P 2 → P 3 → P 11 → P c
none-cases P c h p1 p2 p3 p11 = by (or_split (leb 1 c && leb c 3) (eqb c 11) h)
  where
    low : Dec (c ≡ 1) → Dec (c ≡ 2) → 1 ≤ c → c ≤ 3 → P c
    low (yes e) q l m = subst P (sym e) p1
    low (no e) (yes q) l m = subst P (sym q) p2
    low (no e) (no q) l m = let z : c ≡ 3 = omega arith in subst P (sym z) p3

    by : ((leb 1 c && leb c 3) ≡ true) ⊎ (eqb c 11 ≡ true) → P c
    by (inl e) = let s = and_split (leb 1 c) (leb c 3) e in low (ℕ_discrete c 1) (ℕ_discrete c 2) (leb-true 1 c s.0) (leb-true c 3 s.1)
    by (inr e) = subst P (sym (eqb-true c 11 e)) p11

only-cases : (P : ℕ → Type 0) (n : ℕ) → names_only n ≡ true → P 1 → P 2 → P 4 → P 8 → P n
only-cases P n h p1 p2 p4 p8 = by (or_split (eqb n 1 || eqb n 2 || eqb n 4) (eqb n 8) h)
  where
    low : (eqb n 1 || eqb n 2) ≡ true → P n
    low e = ⊎_elim (λ q. subst P (sym (eqb-true n 1 q)) p1) (λ q. subst P (sym (eqb-true n 2 q)) p2) (or_split (eqb n 1) (eqb n 2) e)

    by : ((eqb n 1 || eqb n 2 || eqb n 4) ≡ true) ⊎ (eqb n 8 ≡ true) → P n
    by (inl e) = ⊎_elim low (λ q. subst P (sym (eqb-true n 4 q)) p4) (or_split (eqb n 1 || eqb n 2) (eqb n 4) e)
    by (inr e) = subst P (sym (eqb-true n 8 e)) p8

module _ (n : ℕ) (h : names_only n ≡ true) where
  pub only-suits : (leb 1 n && leb n 15) ≡ true
  only-suits = only-cases (λ x. (leb 1 x && leb x 15) ≡ true) n h refl refl refl refl

  pub only-length : size_of n ≡ 14
  unfolding ones
  only-length = only-cases (λ x. size_of x ≡ 14) n h refl refl refl refl

  pub only-good : (x : ℕ) → good_kinds n (only_kind (kind_of n) x) ≡ good_named 1 x
  unfolding pick
  only-good x = only-cases (λ q. good_kinds q (only_kind (kind_of q) x) ≡ good_named 1 x) n h (simp and-true) (simp and-true) (simp and-true) refl

module _ (c : ℕ) where
  pub kinds-known : names_kinds c ≡ true → known_code c ≡ true
  kinds-known k =
      let s = and_split (leb 4 c) (leb c 7) k in
      let l = leb-true 4 c s.0 in
      let m = leb-true c 7 s.1 in
      and-join (le-leb 1 c (omega arith)) (le-leb c 13 (omega arith))

  pub one_known : names_one c ≡ true → (known_code c ≡ true) × (names_kinds c ≡ false)
  one_known h = one-cases (λ x. (known_code x ≡ true) × (names_kinds x ≡ false)) c h (refl, refl) (refl, refl) (refl, refl) (refl, refl) (refl, refl)

  pub none-known : names_none c ≡ true → (known_code c ≡ true) × (names_kinds c ≡ false)
  none-known h = none-cases (λ x. (known_code x ≡ true) × (names_kinds x ≡ false)) c h (refl, refl) (refl, refl) (refl, refl) (refl, refl)

  pub one-mark : names_one c ≡ true → pick (names_margin c) 32 16 ≡ mark_of c
  unfolding pick
  one-mark h = one-cases (λ x. pick (names_margin x) 32 16 ≡ mark_of x) c h refl refl refl refl refl

  -- behind the head one amount follows
  pub one-length : (n : ℕ) → names_one c ≡ true → n ≡ mark_of c → size_of n ≡ 14
  unfolding pick ones
  one-length n h = one-cases (λ x. n ≡ mark_of x → size_of n ≡ 14) c h (λ e. rw e refl) (λ e. rw e refl) (λ e. rw e refl) (λ e. rw e refl) (λ e. rw e refl)

  pub none-mark : names_none c ≡ true → 0 ≡ mark_of c
  unfolding pick
  none-mark h = none-cases (λ x. 0 ≡ mark_of x) c h refl refl refl refl

  -- no code is left
  pub unknown-left : names_kinds c ≡ false → names_one c ≡ false → names_none c ≡ false → known_code c ≡ false
  unknown-left k o n = by (known_code c) refl
    where
      never : Code c → ⊥
      never (open_tm e) = test-clash (ap names_none e) n
      never (open_client e) = test-clash (ap names_none e) n
      never (open_cp e) = test-clash (ap names_none e) n
      never (receive e) = test-clash (ap names_kinds e) k
      never (hand_back e) = test-clash (ap names_kinds e) k
      never (allocate e) = test-clash (ap names_kinds e) k
      never (release e) = test-clash (ap names_kinds e) k
      never (pledge e) = test-clash (ap names_one e) o
      never (unpledge e) = test-clash (ap names_one e) o
      never (margin e) = test-clash (ap names_one e) o
      never (retire e) = test-clash (ap names_none e) n
      never (set_pledged e) = test-clash (ap names_one e) o
      never (set_margin e) = test-clash (ap names_one e) o

      by : (t : Bool) → known_code c ≡ t → known_code c ≡ false
      by true e = absurd (never (known-code-cases c e))
      by false e = e

  -- an opening, or 11
  pub bare-opens : known_code c ≡ true → names_kinds c ≡ false → names_one c ≡ false → (c ≡ 11 → ⊥) → c ≤ 3
  bare-opens h k o ne = by (names_none c) refl
    where
      by : (t : Bool) → names_none c ≡ t → c ≤ 3
      by true e = none-cases (λ x. (x ≡ 11 → ⊥) → x ≤ 3) c e (λ q. omega arith) (λ q. omega arith) (λ q. omega arith) (λ q. absurd (q refl)) ne
      by false e = test-clash h (unknown-left k o e)

-- ---- the amounts that were read

got-named : (b : ℕ) (l : List ℕ) → b < 2 → good_amount b 1 (got b l) ≡ good_named b (got b l)
unfolding got
got-named zero l h = refl
got-named (suc zero) l h = refl
got-named (suc (suc b)) l h = absurd (omega arith)

got-unnamed : (b least : ℕ) (l : List ℕ) → b ≡ 0 → good_amount b least (got b l) ≡ true
unfolding got
got-unnamed b least l e = rw e refl

module _ (c n : ℕ) (l : List ℕ) where
  abbrev r : Record
  r = record_of c n l

  -- what stands behind the head
  abbrev front : ℕ
  front = number 8 (drop 2 (drop 2 l))

  pub kinds-good : n ≤ 15 → good_amounts r ≡ good_kinds n r.kinds
  unfolding record_of
  kinds-good h =
      let o = no_other n h in
      let l0 = drop 2 (drop 2 l) in
      let l1 = past (bit 0 n) l0 in
      let l2 = past (bit 1 n) l1 in
      let l3 = past (bit 2 n) l2 in
      let l4 = past (bit 3 n) l3 in
      let l5 = past (bit 4 n) l4 in
      simp (
        got-named (bit 0 n) l0 (bit-lt 0 n),
        got-named (bit 1 n) l1 (bit-lt 1 n),
        got-named (bit 2 n) l2 (bit-lt 2 n),
        got-named (bit 3 n) l3 (bit-lt 3 n),
        got-unnamed (bit 4 n) (least_pledged c) l4 o.0,
        got-unnamed (bit 5 n) 0 l5 o.1,
        and-true,
      )

  pub kinds-asks : names_kinds c ≡ true → asks_of r ≡ Four r.kinds
  unfolding record_of pick
  kinds-asks k = rw k

  pub none-good : n ≡ 0 → good_amounts r ≡ true
  unfolding record_of got
  none-good e = rw e refl

  pub none-asks : names_none c ≡ true → asks_of r ≡ Bare
  unfolding record_of pick
  none-asks h = none-cases (λ x. asks_of (record_of x n l) ≡ Bare) c h refl refl refl refl

  pub one-good : names_one c ≡ true → n ≡ mark_of c → good_amounts r ≡ good_one c front
  unfolding record_of got past pick
  one-good h = one-cases (λ x. n ≡ mark_of x → good_amounts (record_of x n l) ≡ good_one x front) c h
      (λ e. rw e (and-true _)) (λ e. rw e (and-true _)) (λ e. rw e) (λ e. rw e (and-true _)) (λ e. rw e)

  pub one-asks : names_one c ≡ true → n ≡ mark_of c → asks_of r ≡ One front
  unfolding record_of got past pick
  one-asks h = one-cases (λ x. n ≡ mark_of x → asks_of (record_of x n l) ≡ One front) c h (λ e. rw e) (λ e. rw e) (λ e. rw e) (λ e. rw e) (λ e. rw e)

  -- one kind alone
  pub only-read : names_only n ≡ true → r.kinds ≡ only_kind (kind_of n) front
  unfolding record_of got past pick
  only-read h = only-cases (λ x. (record_of c x l).kinds ≡ only_kind (kind_of x) (number 8 (drop 2 (drop 2 l)))) n h refl refl refl refl

-- four amounts stand for one kind alone
pub meant-own : (alive : Bool) (serial : ℕ) (r : Record) → meant (asked_of alive serial r) ≡ asked_of alive serial r
unfolding asked_of pick
meant-own alive serial r = by (early_number alive serial r)
  where
    plain : (t u : Bool) (k : Kinds) (y : ℕ) → meant (pick t (Four k) (pick u (One y) Bare)) ≡ pick t (Four k) (pick u (One y) Bare)
    plain true u k y = refl
    plain false true k y = refl
    plain false false k y = refl

    by : (n : ℕ) → meant (unless_refused n (asks_of r) Refused) ≡ unless_refused n (asks_of r) Refused
    by zero = plain (names_kinds r.code) (names_one r.code) r.kinds (one_amount r)
    by (suc n) = refl

-- ---- what was asked, taken apart

module _ (alive : Bool) (serial : ℕ) (r : Record) where
  abbrev c : ℕ
  c = r.code

  none-refused : (t u : Bool) (k : Kinds) (y n : ℕ) → pick t (Four k) (pick u (One y) Bare) ≡ Refused n → ⊥
  unfolding pick
  none-refused true u k y n e = zero-is-not-one (cc)
  none-refused false true k y n e = zero-is-not-one (cc)
  none-refused false false k y n e = zero-is-not-one (cc)

  pub refused-early : (n : ℕ) → asked_of alive serial r ≡ Refused n → (n ≡ early_number alive serial r) × (n ≡ 0 → ⊥)
  unfolding asked_of
  refused-early n = by (early_number alive serial r)
    where
      by : (k : ℕ) → unless_refused k (asks_of r) Refused ≡ Refused n → (n ≡ k) × (n ≡ 0 → ⊥)
      by zero e = absurd (none-refused (names_kinds c) (names_one c) _ _ n e)
      by (suc k) e = let q : n ≡ suc k = cc in (q, λ z. omega (arith, q, z))

  -- no line before 8 refuses the record
  passes : (x : Asked) → ((n : ℕ) → Refused n ≡ x → ⊥) → asked_of alive serial r ≡ x → (0 ≡ early_number alive serial r) × (asks_of r ≡ x)
  unfolding asked_of
  passes x ne = by (early_number alive serial r)
    where
      by : (k : ℕ) → unless_refused k (asks_of r) Refused ≡ x → (0 ≡ k) × (asks_of r ≡ x)
      by zero e = (refl, e)
      by (suc k) e = absurd (ne (suc k) e)

  pub bare-early : asked_of alive serial r ≡ Bare → (0 ≡ early_number alive serial r) × (names_kinds c ≡ false) × (names_one c ≡ false)
  unfolding pick
  bare-early e = let p = passes Bare (λ n q. zero-is-not-one (cc)) e in let b = by (names_kinds c) (names_one c) _ _ p.1 in (p.0, b.0, b.1)
    where
      by : (t u : Bool) (k : Kinds) (y : ℕ) → pick t (Four k) (pick u (One y) Bare) ≡ Bare → (t ≡ false) × (u ≡ false)
      by true u k y q = zero-is-not-one (cc)
      by false true k y q = zero-is-not-one (cc)
      by false false k y q = (refl, refl)

  pub one-early : (y : ℕ) → asked_of alive serial r ≡ One y → (0 ≡ early_number alive serial r) × (names_one c ≡ true) × (one_amount r ≡ y)
  unfolding pick
  one-early y e = let p = passes (One y) (λ n q. zero-is-not-one (cc)) e in let b = by (names_kinds c) (names_one c) _ _ p.1 in (p.0, b.0, b.1)
    where
      by : (t u : Bool) (k : Kinds) (x : ℕ) → pick t (Four k) (pick u (One x) Bare) ≡ One y → (u ≡ true) × (x ≡ y)
      by true u k x q = zero-is-not-one (cc)
      by false true k x q = (refl, cc)
      by false false k x q = zero-is-not-one (cc)

  pub kinds-early : (k : Kinds) → asked_of alive serial r ≡ Four k → (0 ≡ early_number alive serial r) × (names_kinds c ≡ true) × (r.kinds ≡ k)
  unfolding pick
  kinds-early k e = let p = passes (Four k) (λ n q. zero-is-not-one (cc)) e in let b = by (names_kinds c) (names_one c) _ _ p.1 in (p.0, b.0, b.1)
    where
      by : (t u : Bool) (x : Kinds) (y : ℕ) → pick t (Four x) (pick u (One y) Bare) ≡ Four k → (t ≡ true) × (x ≡ k)
      by true u x y q = (refl, cc)
      by false true x y q = zero-is-not-one (cc)
      by false false x y q = zero-is-not-one (cc)
