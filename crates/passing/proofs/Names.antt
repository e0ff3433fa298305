-- A second mark byte that names one amount, by its code.
use mathlib.Core.Bool.{Bool, true, false, not, ◌&&◌, ◌||◌, false≢true}
use mathlib.Core.Logic.{◌⊎◌, inl, inr}
use mathlib.Core.Path.{◌≡◌, refl, sym, ap, ◌∙◌}
use Prim.Native.Nat.{ℕ, ◌≤◌, ◌<◌}
use native.Mathlib.Omega.{arith}
use lib.Count.{ones}
use lib.Dec.{leb, eqb}
use borrow.Author.Tests.{leb-true, eqb-true, le-leb}
use Rattle.sums.specs.Sum.{all}
use Rattle.sums.proofs.Choices.{and_split, and-join, or_split, or_else}
use Rattle.sums.proofs.Sums.{all-at}
use Rattle.dayfile.specs.Records.{known_code, suits}
use Rattle.rules.proofs.Codes.{Code, open_tm, open_client, open_cp, receive, hand_back, allocate, release, pledge, unpledge, margin, retire, set_pledged, set_margin, known-code-cases}
use Rattle.passing.specs.Most.{has_amount, names_one}

-- which kind it names alone
pub data Kind (named : ℕ) : Type 0 where
  cash : named ≡ 1 → Kind named
  deposits : named ≡ 2 → Kind named
  guarantees : named ≡ 4 → Kind named
  securities : named ≡ 8 → Kind named

-- which code it is, and what it then names
pub data Names (code named : ℕ) : Type 0 where
  receives : code ≡ 4 → Kind named → Names code named
  hands_back : code ≡ 5 → Kind named → Names code named
  allocates : code ≡ 6 → Kind named → Names code named
  releases : code ≡ 7 → Kind named → Names code named
  pledges : code ≡ 8 → named ≡ 16 → Names code named
  unpledges : code ≡ 9 → named ≡ 16 → Names code named
  sets_margin : code ≡ 10 → named ≡ 32 → Names code named
  sets_pledged : code ≡ 12 → named ≡ 16 → Names code named
  revises_margin : code ≡ 13 → named ≡ 32 → Names code named

-- one computed test: of the sixteen bytes that name kinds, those that name one
one-kind : all 16 (λ n. not (eqb (ones n) 1) || (eqb n 1 || eqb n 2 || eqb n 4 || eqb n 8)) ≡ true
unfolding all ones
one-kind = refl

or-false : (t : Bool) → (t || false) ≡ t
or-false true = refl
or-false false = refl

kind-cases : (named : ℕ) → (eqb named 1 || eqb named 2 || eqb named 4 || eqb named 8) ≡ true → Kind named
kind-cases named is = by (or_split (eqb named 1 || eqb named 2 || eqb named 4) (eqb named 8) is)
  where
    low : (eqb named 1 ≡ true) ⊎ (eqb named 2 ≡ true) → Kind named
    low (inl e) = cash (eqb-true named 1 e)
    low (inr e) = deposits (eqb-true named 2 e)

    mid : ((eqb named 1 || eqb named 2) ≡ true) ⊎ (eqb named 4 ≡ true) → Kind named
    mid (inl e) = low (or_split (eqb named 1) (eqb named 2) e)
    mid (inr e) = guarantees (eqb-true named 4 e)

    by : ((eqb named 1 || eqb named 2 || eqb named 4) ≡ true) ⊎ (eqb named 8 ≡ true) → Kind named
    by (inl e) = mid (or_split (eqb named 1 || eqb named 2) (eqb named 4) e)
    by (inr e) = securities (eqb-true named 8 e)

kind-of : (named : ℕ) → (leb 1 named && leb named 15) ≡ true → eqb (ones named) 1 ≡ true → Kind named
kind-of named h one =
    let below : named < 16 = omega (arith, leb-true named 15 (and_split (leb 1 named) (leb named 15) h).1) in
    kind-cases named (or_else (not (eqb (ones named) 1)) _ (all-at 16 (λ n. not (eqb (ones n) 1) || (eqb n 1 || eqb n 2 || eqb n 4 || eqb n 8)) one-kind named below) (ap not one))

pub amount-known : (code : ℕ) → has_amount code ≡ true → known_code code ≡ true
amount-known code h = by (or_split (leb 4 code && leb code 10 || eqb code 12) (eqb code 13) h)
  where
    from : 1 ≤ code → code ≤ 13 → known_code code ≡ true
    from l m = and-join (le-leb 1 code l) (le-leb code 13 m)

    mid : ((leb 4 code && leb code 10) ≡ true) ⊎ (eqb code 12 ≡ true) → known_code code ≡ true
    mid (inl e) = let q = and_split (leb 4 code) (leb code 10) e in from (omega (arith, leb-true 4 code q.0)) (omega (arith, leb-true code 10 q.1))
    mid (inr e) = from (omega (arith, eqb-true code 12 e)) (omega (arith, eqb-true code 12 e))

    by : ((leb 4 code && leb code 10 || eqb code 12) ≡ true) ⊎ (eqb code 13 ≡ true) → known_code code ≡ true
    by (inl e) = mid (or_split (leb 4 code && leb code 10) (eqb code 12) e)
    by (inr e) = from (omega (arith, eqb-true code 13 e)) (omega (arith, eqb-true code 13 e))

pub names_of : (code named : ℕ) → has_amount code ≡ true → names_one code named ≡ true → Names code named
names_of code named h n = by (known-code-cases code (amount-known code h))
  where
    suit : suits code named ≡ true
    suit = (and_split (suits code named) (eqb (ones named) 1) n).0

    one : eqb (ones named) 1 ≡ true
    one = (and_split (suits code named) (eqb (ones named) 1) n).1

    suits-at : (k : ℕ) → code ≡ k → suits k named ≡ true
    suits-at k e = ap (λ c. suits c named) (sym e) ∙ suit

    none : (k : ℕ) → code ≡ k → has_amount k ≡ false → Names code named
    none k e q = absurd (false≢true (sym q ∙ ap has_amount (sym e) ∙ h))

    by : Code code → Names code named
    by (open_tm e) = none 1 e refl
    by (open_client e) = none 2 e refl
    by (open_cp e) = none 3 e refl
    by (receive e) = receives e (kind-of named (simp or-false at (suits-at 4 e)) one)
    by (hand_back e) = hands_back e (kind-of named (simp or-false at (suits-at 5 e)) one)
    by (allocate e) = allocates e (kind-of named (simp or-false at (suits-at 6 e)) one)
    by (release e) = releases e (kind-of named (simp or-false at (suits-at 7 e)) one)
    by (pledge e) = pledges e (eqb-true named 16 (simp or-false at (suits-at 8 e)))
    by (unpledge e) = unpledges e (eqb-true named 16 (simp or-false at (suits-at 9 e)))
    by (margin e) = sets_margin e (eqb-true named 32 (simp or-false at (suits-at 10 e)))
    by (retire e) = none 11 e refl
    by (set_pledged e) = sets_pledged e (eqb-true named 16 (simp or-false at (suits-at 12 e)))
    by (set_margin e) = revises_margin e (eqb-true named 32 (suits-at 13 e))
