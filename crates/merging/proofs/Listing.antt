-- A file read record by record, up to the first that isn't good.
use Rattle.std.proofs.Common.{◌≡◌, ℕ, zero, suc, None, Some, ◌+◌, ◌<◌, ◌≤◌, List, length, get_or, drop, sym, refl, ap, ◌∙◌, arith, length-drop}
use Rattle.sums.specs.Choice.{unless_refused}
use Rattle.sums.proofs.Choices.{refused-by}
use Rattle.numbers.proofs.Numbers.{two_at}
use Rattle.dayfile.specs.declared.Record.{Record}
use Rattle.dayfile.specs.declared.Found.{Found}
use Rattle.dayfile.specs.declared.Found.TheVariants.{End as NoBytes, Cut as TooFew, Whole}
use Rattle.dayfile.specs.declared.Read.{Read}
use Rattle.dayfile.specs.declared.Read.TheVariants.{End, Cut, Good, Bad}
use Rattle.dayfile.specs.Records.{fault_of}
use Rattle.dayfile.specs.Reading.{size_of, found_at, judged, read_of, read_at, number_of}
use Rattle.dayfile.proofs.RoundTrip.{end_read, read_found}
use Rattle.dayfile.proofs.Places.{whole-stands, named-from, next-is, next-least, next-within, end-at}
use Rattle.merging.specs.Merging.{Listed, ended, onward, listed_from, listed_in}
use Rattle.merging.specs.Inner.{Looked, looked, stopped}

-- ---- what is read at a place

-- the second mark byte of a record that stands there whole
named-there : (s : List ℕ) (at : ℕ) {r : Record} {next : ℕ} → found_at s at ≡ Whole r next → r.named ≡ get_or s (at + 1) 0
named-there s at found =
    let w = whole-stands s at found in
    let k : length (drop at s) ≡ suc (suc (length w.rest)) = ap length w.bytes in
    let e = sym (two_at s at (omega (arith, length-drop at s, k))) ∙ w.bytes in
    named-from (drop at s) at w ∙ (let q : get_or s (at + 1) 0 ≡ w.named = cc in sym q)

-- a good record, and the place behind it
pub record GoodAt (s : List ℕ) (at : ℕ) : Type 0 where
  pub of : Record
  pub read : read_at s at ≡ Good of (at + size_of (get_or s (at + 1) 0))
  pub within : at + size_of (get_or s (at + 1) 0) ≤ length s

-- within a file, what isn't refused is a good record
pub good-at : (s : List ℕ) (at : ℕ) → at < length s → number_of (read_at s at) ≡ 0 → GoodAt s at
unfolding read_at read_of judged
good-at s at h e = by (found_at s at) refl e
  where
    by : (f : Found) → found_at s at ≡ f → number_of (read_of f) ≡ 0 → GoodAt s at
    by NoBytes q n = absurd (omega (arith, end-at s at q))
    by TooFew q n = absurd (omega arith)
    by (Whole r next) q n = fault (fault_of r) refl n
      where
        next-there : next ≡ at + size_of (get_or s (at + 1) 0)
        next-there = next-is s at q ∙ ap (λ k. at + size_of k) (named-there s at q)

        fault : (k : ℕ) → fault_of r ≡ k → number_of (unless_refused k (Good r next) (λ m. Bad m r.serial r.code r.account next)) ≡ 0 → GoodAt s at
        fault zero g z = record {
          of = r;
          read = rw (q, g) (ap (Good r) next-there);
          within = rw next-there at (next-within s at q);
        }
        fault (suc k) g z = absurd (omega arith)

-- what is refused there isn't refused with 0
pub bad-not-0 : (s : List ℕ) (at : ℕ) {reason serial code account next : ℕ} → read_at s at ≡ Bad reason serial code account next → reason ≡ 0 → ⊥
unfolding read_at read_of judged
bad-not-0 s at {reason} {serial} {code} {account} {next = after} e z = by (found_at s at) e
  where
    by : (f : Found) → read_of f ≡ Bad reason serial code account after → ⊥
    by NoBytes q = let k : ◌≡◌ {A = ℕ} 0 1 = cc in omega arith
    by TooFew q = let k : ◌≡◌ {A = ℕ} 0 1 = cc in omega arith
    by (Whole r next) q = fault (fault_of r) q
      where
        fault : (k : ℕ) → unless_refused k (Good r next) (λ m. Bad m r.serial r.code r.account next) ≡ Bad reason serial code account after → ⊥
        fault zero h = let k : ◌≡◌ {A = ℕ} 0 1 = cc in omega arith
        fault (suc k) h = let n : suc k ≡ reason = cc in omega arith

-- ---- from a place on

pub listed-end : (s : List ℕ) (most at : ℕ) → length s ≤ at → listed_from s most at ≡ ended 0
unfolding listed_from
listed-end s zero at h = refl
listed-end s (suc most) at h = ap (onward (listed_from s most)) (end_read s at h)

-- more than enough is enough
same-most : (s : List ℕ) (m n at : ℕ) → length s ≤ at + m → length s ≤ at + n → listed_from s m at ≡ listed_from s n at
unfolding listed_from
same-most s zero n at h k = sym (listed-end s n at (omega arith))
same-most s (suc m) zero at h k = listed-end s (suc m) at (omega arith)
same-most s (suc m) (suc n) at h k = by (read_at s at) refl (λ next p q. same-most s m n next p q)
  where
    by : (x : Read) → read_at s at ≡ x → ((next : ℕ) → length s ≤ next + m → length s ≤ next + n → listed_from s m next ≡ listed_from s n next)
        → onward (listed_from s m) x ≡ onward (listed_from s n) x
    by End e go = refl
    by Cut e go = refl
    by (Good r next) e go =
        let l = next-least s at (read_found s at e).0 in
        ap (λ (x : Listed). onward (λ p. x) (Good r next)) (go next (omega arith) (omega arith))
    by (Bad reason serial code account next) e go = refl

module _ (s : List ℕ) (most at : ℕ) (enough : length s ≤ most) (inside : at < length s) where
  -- a good record stands in front of what is behind it
  pub on-good : {r : Record} {next : ℕ} → read_at s at ≡ Good r next → listed_from s most at ≡ onward (listed_from s most) (Good r next)
  unfolding listed_from
  on-good {r} {next} e = by most enough
    where
      by : (n : ℕ) → length s ≤ n → listed_from s n at ≡ onward (listed_from s n) (Good r next)
      by zero h = absurd (omega arith)
      by (suc n) h =
          let l = next-least s at (read_found s at e).0 in
          ap (onward (listed_from s n)) e ∙ ap (λ (x : Listed). onward (λ p. x) (Good r next)) (same-most s n (suc n) next (omega arith) (omega arith))

  -- at what is refused the reading ends
  pub on-fault : (number_of (read_at s at) ≡ 0 → ⊥) → listed_from s most at ≡ ended (number_of (read_at s at))
  unfolding listed_from
  on-fault bad = by most enough (read_at s at) refl
    where
      by : (n : ℕ) → length s ≤ n → (x : Read) → read_at s at ≡ x → listed_from s n at ≡ ended (number_of (read_at s at))
      by zero h x e = absurd (omega arith)
      by (suc n) h End e = absurd (bad (ap number_of e))
      by (suc n) h Cut e = ap (onward (listed_from s n)) e ∙ ap ended (sym (ap number_of e))
      by (suc n) h (Good r next) e = absurd (bad (ap number_of e))
      by (suc n) h (Bad reason serial code account next) e = ap (onward (listed_from s n)) e ∙ ap ended (sym (ap number_of e))

-- ---- the look at a file, record by record

-- what k records and the listing from a place on come to is what the whole file's comes to
abbrev pub Looking : List ℕ → ℕ → ℕ → Type 0
Looking s k at = looked k (listed_from s (length s) at) ≡ looked 0 (listed_in s)

looked-as : (m n x : ℕ) → m ≡ n → ◌≡◌ {A = Looked} (record { records = m; refusal = x }) (record { records = n; refusal = x })
looked-as m n x e = ap (λ n. record { records = n; refusal = x }) e

module _ (s : List ℕ) (k at : ℕ) (h : Looking s k at) where
  pub look-all : length s ≤ at → record { records = k; refusal = 0 } ≡ looked 0 (listed_in s)
  look-all l = looked-as k (k + 0) 0 (omega arith) ∙ sym (ap (looked k) (listed-end s (length s) at l)) ∙ h

  pub look-ends : length s ≤ at → None ≡ stopped (looked 0 (listed_in s))
  look-ends l = ap stopped (look-all l)

  module _ (inside : at < length s) where
    pub look-stops : (number_of (read_at s at) ≡ 0 → ⊥) → Some (record { index = k; refusal = number_of (read_at s at) }) ≡ stopped (looked 0 (listed_in s))
    look-stops bad =
        refused-by (number_of (read_at s at)) None (λ n. Some (record { index = k; refusal = n })) bad
        ∙ ap stopped (looked-as k (k + 0) _ (omega arith) ∙ sym (ap (looked k) (on-fault s (length s) at (omega arith) inside bad)) ∙ h)

    pub look-on : number_of (read_at s at) ≡ 0 → Looking s (k + 1) (at + size_of (get_or s (at + 1) 0))
    look-on z =
        looked-as _ _ _ (omega arith) ∙ sym (ap (looked k) (on-good s (length s) at (omega arith) inside (good-at s at inside z).read)) ∙ h
