-- What a record with no fault is known to be.
use mathlib.Core.Bool.{Bool, true, false, not, ◌&&◌, ◌||◌}
use mathlib.Core.Logic.{◌⊎◌, inl, inr}
use mathlib.Core.List.{List, ◌++◌}
use mathlib.Core.Path.{◌≡◌, refl}
use Prim.Native.Nat.{ℕ, ◌≤◌, ◌<◌}
use native.Mathlib.Omega.{arith}
use lib.Dec.{leb, eqb, lit<}
use borrow.Author.Tests.{leb-true, eqb-true, eqb-false, not-false}
use Rattle.sums.proofs.Choices.{and_split}
use Rattle.sums.specs.Table.{Line, first}
use Rattle.sums.proofs.Tables.{Numbered, first-none, first-fails}
use Rattle.rows.specs.Rows.{ceiling}
use Rattle.dayfile.specs.declared.Record.{Record}
use Rattle.dayfile.specs.Records.{bit, known_code, suits, least_pledged, good_amount, good_amounts, faults, fault_of}

pub three-numbered : (r : Record) → Numbered (faults r)
three-numbered r = (lit< tt, (lit< tt, (lit< tt, tt)))

-- past the faults a table goes on
pub past-faults : (r : Record) (rest : List Line) → fault_of r ≡ 0 → first (faults r ++ rest) ≡ first rest
unfolding fault_of
past-faults r rest e = first-none (faults r) rest (three-numbered r) e

-- each part of the judgement holds
pub record Good (r : Record) : Type 0 where
  pub known : known_code r.code ≡ true
  pub suit : suits r.code r.named ≡ true
  pub cash : good_amount (bit 0 r.named) 1 r.kinds.cash ≡ true
  pub deposits : good_amount (bit 1 r.named) 1 r.kinds.deposits ≡ true
  pub guarantees : good_amount (bit 2 r.named) 1 r.kinds.guarantees ≡ true
  pub securities : good_amount (bit 3 r.named) 1 r.kinds.securities ≡ true
  pub pledged : good_amount (bit 4 r.named) (least_pledged r.code) r.pledged ≡ true
  pub margin : good_amount (bit 5 r.named) 0 r.margin ≡ true

pub no-fault-good : (r : Record) → fault_of r ≡ 0 → Good r
unfolding fault_of
no-fault-good r e =
    let a = first-fails 4 _ _ (omega arith) e in
    let b = first-fails 5 _ _ (omega arith) a.1 in
    let c = first-fails 6 _ _ (omega arith) b.1 in
    let m = and_split _ _ (not-false (good_amounts r) c.0) in
    let p = and_split _ _ m.0 in
    let s = and_split _ _ p.0 in
    let g = and_split _ _ s.0 in
    let d = and_split _ _ g.0 in
    record {
      known = not-false (known_code r.code) a.0;
      suit = not-false (suits r.code r.named) b.0;
      cash = d.0;
      deposits = d.1;
      guarantees = g.1;
      securities = s.1;
      pledged = p.1;
      margin = m.1;
    }

-- ---- one amount

or-false : (a : Bool) → (a || false) ≡ true → a ≡ true
or-false true e = refl
or-false false e = e

module _ (b least x : ℕ) (h : good_amount b least x ≡ true) where
  amount-cases : ((b ≡ 0) × (x ≡ 0)) ⊎ ((b ≡ 0 → ⊥) × (least ≤ x) × (x ≤ ceiling))
  amount-cases = by (eqb b 0) refl h
    where
      by : (t : Bool) → eqb b 0 ≡ t → (t && eqb x 0 || not t && leb least x && leb x ceiling) ≡ true
          → ((b ≡ 0) × (x ≡ 0)) ⊎ ((b ≡ 0 → ⊥) × (least ≤ x) × (x ≤ ceiling))
      by true e k = inl (eqb-true b 0 e, eqb-true x 0 (or-false (eqb x 0) k))
      by false e k =
          let s = and_split (leb least x) (leb x ceiling) k in
          inr (eqb-false b 0 e, leb-true least x s.0, leb-true x ceiling s.1)

  -- an amount of a good record is at most the ceiling, and one that isn't named is 0
  pub amount-most : x ≤ ceiling
  amount-most = by amount-cases
    where
      by : ((b ≡ 0) × (x ≡ 0)) ⊎ ((b ≡ 0 → ⊥) × (least ≤ x) × (x ≤ ceiling)) → x ≤ ceiling
      by (inl w) = omega (arith, w.1)
      by (inr w) = w.2

  pub amount-unnamed : b ≡ 0 → x ≡ 0
  amount-unnamed e = by amount-cases
    where
      by : ((b ≡ 0) × (x ≡ 0)) ⊎ ((b ≡ 0 → ⊥) × (least ≤ x) × (x ≤ ceiling)) → x ≡ 0
      by (inl w) = w.1
      by (inr w) = absurd (w.0 e)

-- ---- the second mark byte

-- one of two tests holds, the second of which ends in b
ends : {P : Type 0} (front a b : Bool) → (front ≡ true → P) → (b ≡ true → P) → (front || a && b) ≡ true → P
ends true a b f g e = f refl
ends false a b f g e = g (and_split a b e).1

-- a second mark byte that suits has none of the bits 6 and 7
pub suits-lt : (c n : ℕ) → suits c n ≡ true → n < 64
suits-lt c n =
    let a = leb 1 c && leb c 3 && eqb n 0 in
    let b = a || leb 4 c && leb c 7 && leb 1 n && leb n 15 in
    let d = b || leb 8 c && leb c 9 && eqb n 16 in
    let e = d || eqb c 10 && eqb n 32 in
    let f = e || eqb c 11 && eqb n 0 in
    let g = f || eqb c 12 && eqb n 16 in
    ends g (eqb c 13) (eqb n 32)
    (ends f (eqb c 12) (eqb n 16)
    (ends e (eqb c 11) (eqb n 0)
    (ends d (eqb c 10) (eqb n 32)
    (ends b (leb 8 c && leb c 9) (eqb n 16)
    (ends a (leb 4 c && leb c 7 && leb 1 n) (leb n 15)
    (λ h. omega (arith, eqb-true n 0 (and_split (leb 1 c && leb c 3) (eqb n 0) h).1))
    (λ h. omega (arith, leb-true n 15 h)))
    (λ h. omega (arith, eqb-true n 16 h)))
    (λ h. omega (arith, eqb-true n 32 h)))
    (λ h. omega (arith, eqb-true n 0 h)))
    (λ h. omega (arith, eqb-true n 16 h)))
    (λ h. omega (arith, eqb-true n 32 h))
