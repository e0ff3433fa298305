-- A record judged by its code: which second mark bytes suit it, and of amounts that it can't name only that they are 0 is asked.
use mathlib.Core.Bool.{Bool, true, false, ◌&&◌, ◌||◌, or-false}
use mathlib.Core.Logic.{◌⊎◌, inl, inr}
use mathlib.Core.Path.{◌≡◌, refl, sym, ◌∙◌}
use Prim.Native.Nat.{ℕ, zero, suc, ◌*◌, ◌≤◌, ◌<◌}
use native.Mathlib.Omega.{arith}
use native.Mathlib.Decide.{dec_le, ℕ_discrete}
use lib.Dec.{leb, eqb}
use borrow.Author.Tests.{le-leb, lt-leb, ne_eqb, leb-true}
use Rattle.sums.specs.Choice.{pick}
use Rattle.sums.proofs.Choices.{and_split, and-join, test-clash}
use Rattle.rows.specs.Rows.{ceiling}
use Rattle.dayfile.specs.Records.{bit, known_code, suits, good_amount}
use Rattle.dayfile.specs.Taking.{mark_of}

-- ---- one amount, by its bit

none_below : (x : ℕ) → leb x 0 ≡ eqb x 0
none_below zero = refl
none_below (suc x) = lt-leb (suc x) 0 (omega arith) ∙ sym (ne_eqb (suc x) 0 (λ e. omega arith))

pub unnamed-amount : (b least x : ℕ) → b ≡ 0 → eqb x 0 ≡ good_amount b least x
unnamed-amount b least x e = rw e (sym (or-false (eqb x 0)))

pub amount-by-bit : (b x : ℕ) → b < 2 → (leb b x && leb x (b * ceiling)) ≡ good_amount b 1 x
amount-by-bit zero x h = rw (le-leb 0 x (omega arith)) (none_below x ∙ unnamed-amount 0 1 x refl)
amount-by-bit (suc zero) x h = refl
amount-by-bit (suc (suc b)) x h = absurd (omega arith)

pub margin-by-bit : (b x : ℕ) → b < 2 → leb x (b * ceiling) ≡ good_amount b 0 x
margin-by-bit zero x h = none_below x ∙ unnamed-amount 0 0 x refl
margin-by-bit (suc zero) x h = rw (le-leb 0 x (omega arith))
margin-by-bit (suc (suc b)) x h = absurd (omega arith)

-- ---- the second mark byte, by the code

module _ (c n : ℕ) where
  pub kinds-suit : (leb 4 c && leb c 7) ≡ true → (leb 1 n && leb n 15) ≡ suits c n
  kinds-suit k =
      let s = and_split (leb 4 c) (leb c 7) k in
      let p = leb-true 4 c s.0 in
      let q = leb-true c 7 s.1 in
      rw (le-leb 1 c (omega arith), lt-leb c 3 (omega arith), s.0, s.1, lt-leb 8 c (omega arith), ne_eqb c 10 (λ e. omega arith), ne_eqb c 11 (λ e. omega arith), ne_eqb c 12 (λ e. omega arith), ne_eqb c 13 (λ e. omega arith))
      (simp or-false)

  opening-suits : 1 ≤ c → c ≤ 3 → eqb n (mark_of c) ≡ suits c n
  unfolding pick
  opening-suits p q =
      rw (ne_eqb c 10 (λ e. omega arith), lt-leb 8 c (omega arith), le-leb 1 c p, le-leb c 3 q, lt-leb 4 c (omega arith), ne_eqb c 11 (λ e. omega arith), ne_eqb c 12 (λ e. omega arith), ne_eqb c 13 (λ e. omega arith))
      (simp or-false)

  pledge-suits : 8 ≤ c → c ≤ 9 → eqb n (mark_of c) ≡ suits c n
  unfolding pick
  pledge-suits p q =
      rw (ne_eqb c 10 (λ e. omega arith), le-leb 8 c p, le-leb c 9 q, lt-leb c 3 (omega arith), lt-leb c 7 (omega arith), ne_eqb c 11 (λ e. omega arith), ne_eqb c 12 (λ e. omega arith), ne_eqb c 13 (λ e. omega arith), le-leb 1 c (omega arith), le-leb 4 c (omega arith))
      (simp or-false)

  margin-suits : c ≡ 10 → eqb n (mark_of c) ≡ suits c n
  unfolding pick
  margin-suits e = rw e (simp or-false)

  retire-suits : c ≡ 11 → eqb n (mark_of c) ≡ suits c n
  unfolding pick
  retire-suits e = rw e (simp or-false)

  set-pledged-suits : c ≡ 12 → eqb n (mark_of c) ≡ suits c n
  unfolding pick
  set-pledged-suits e = rw e (simp or-false)

  set-margin-suits : c ≡ 13 → eqb n (mark_of c) ≡ suits c n
  unfolding pick
  set-margin-suits e = rw e

  module _ (h : known_code c ≡ true) (k : (leb 4 c && leb c 7) ≡ false) where
    pub one-suits : eqb n (mark_of c) ≡ suits c n
    one-suits =
        let s = and_split (leb 1 c) (leb c 13) h in
        let p = leb-true 1 c s.0 in
        let q = leb-true c 13 s.1 in
        by p q (dec_le c 3) (dec_le c 9) (ℕ_discrete c 10) (ℕ_discrete c 11) (ℕ_discrete c 12)
      where
        by : 1 ≤ c → c ≤ 13 → Dec (c ≤ 3) → Dec (c ≤ 9) → Dec (c ≡ 10) → Dec (c ≡ 11) → Dec (c ≡ 12) → eqb n (mark_of c) ≡ suits c n
        by p q (yes l) m e f g = opening-suits p l
        by p q (no l) (yes m) e f g = pledge-suits (not-four (omega arith)) m
          where
            not-four : 4 ≤ c → 8 ≤ c
            not-four u = from-eight (dec_le c 7)
              where
                from-eight : Dec (c ≤ 7) → 8 ≤ c
                from-eight (yes w) = test-clash (and-join (le-leb 4 c u) (le-leb c 7 w)) k
                from-eight (no w) = omega arith
        by p q (no l) (no m) (yes e) f g = margin-suits e
        by p q (no l) (no m) (no e) (yes f) g = retire-suits f
        by p q (no l) (no m) (no e) (no f) (yes g) = set-pledged-suits g
        by p q (no l) (no m) (no e) (no f) (no g) = set-margin-suits (omega arith)

-- ---- amounts that a suiting second mark byte can't name

pub no_other : (n : ℕ) → n ≤ 15 → (bit 4 n ≡ 0) × (bit 5 n ≡ 0)
no_other n h = (omega arith, omega arith)

pub record NoKinds (n : ℕ) : Type 0 where
  pub cash : bit 0 n ≡ 0
  pub deposits : bit 1 n ≡ 0
  pub guarantees : bit 2 n ≡ 0
  pub securities : bit 3 n ≡ 0

mark-cases : (c : ℕ) → (mark_of c ≡ 0) ⊎ ((mark_of c ≡ 16) ⊎ (mark_of c ≡ 32))
unfolding pick
mark-cases c = by (eqb c 10 || eqb c 13) (leb 8 c && leb c 9 || eqb c 12)
  where
    mark : Bool → Bool → ℕ
    mark t u = pick t 32 (pick u 16 0)

    by : (t u : Bool) → (mark t u ≡ 0) ⊎ ((mark t u ≡ 16) ⊎ (mark t u ≡ 32))
    by true u = inr (inr refl)
    by false true = inr (inl refl)
    by false false = inl refl

pub no-kinds : (c n : ℕ) → n ≡ mark_of c → NoKinds n
no-kinds c n e = by (mark-cases c)
  where
    at : (m : ℕ) → mark_of c ≡ m → NoKinds m → NoKinds n
    at m f k = rw (e ∙ f) k

    by : (mark_of c ≡ 0) ⊎ ((mark_of c ≡ 16) ⊎ (mark_of c ≡ 32)) → NoKinds n
    by (inl f) = at 0 f (record { cash = refl; deposits = refl; guarantees = refl; securities = refl })
    by (inr (inl f)) = at 16 f (record { cash = refl; deposits = refl; guarantees = refl; securities = refl })
    by (inr (inr f)) = at 32 f (record { cash = refl; deposits = refl; guarantees = refl; securities = refl })
