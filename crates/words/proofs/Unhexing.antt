-- What the loop that reads bytes in hexadecimal does at one place.
use Rattle.std.proofs.Common.{◌≡◌, ℕ, zero, suc, ◌+◌, ◌-◌, ◌*◌, ◌<◌, ◌≤◌, true, false, ◌&&◌, ltb, List, [], ◌∷◌, ◌++◌, length, get_or, take, drop, set, sym, refl, ap, ◌∙◌, append_assoc, append-nil, add-one, arith, length-drop, length-take-le, take-suc-set, le-ltb, lt-ltb}
use Rattle.sums.proofs.Choices.{pick_yes, pick_no, and-join, and-left-fails, and-right-fails}
use Rattle.words.specs.declared.unhex.Count.{Count}
use Rattle.words.specs.Tokens.{blank}
use Rattle.words.specs.Hex.{hex_value, Hexed, stopped, with_byte, hex_from}
use Rattle.words.specs.Inner.{Unhexed}
use Rattle.words.proofs.Steps.{ahead}

-- what is read in all, with n bytes in the room
pub record HexSofar (whole : Hexed) (room : List ℕ) (n : ℕ) (rest : Hexed) : Type 0 where
  pub bytes : whole.bytes ≡ take n room ++ rest.bytes
  pub next : whole.next ≡ rest.next

pub hex-start : (whole : Hexed) (room : List ℕ) → HexSofar whole room 0 whole
hex-start whole room = record { bytes = refl; next = refl }

module _ {whole : Hexed} {room : List ℕ} {n : ℕ} {rest : Hexed} (f : HexSofar whole room n rest) where
  pub hex-on : {rest' : Hexed} → rest ≡ rest' → HexSofar whole room n rest'
  hex-on e = rw e at f

  pub hex-done : {i : ℕ} → rest ≡ stopped i → n ≤ length room → (r : Count) → r.count ≡ n → r.next ≡ i → Unhexed whole r room
  hex-done {i} e h r p q =
      let b : whole.bytes ≡ take n room = f.bytes ∙ ap (λ (v : Hexed). take n room ++ v.bytes) e ∙ append-nil (take n room) in
      record { count = p ∙ sym (ap length b ∙ length-take-le n room h); next = q ∙ sym (f.next ∙ ap (λ (v : Hexed). v.next) e); held = ap (λ (k : ℕ). take k room) p ∙ sym b }

  pub hex-more : {b : ℕ} {rest' : Hexed} → rest ≡ with_byte b rest' → n < length room → HexSofar whole (set room n b) (n + 1) rest'
  hex-more {b} {rest'} e h = record {
    bytes =
        f.bytes ∙ ap (λ (v : Hexed). take n room ++ v.bytes) e ∙ sym (append_assoc (take n room) (b ∷ []) rest'.bytes)
        ∙ ap (λ (l : List ℕ). l ++ rest'.bytes) (sym (ap (λ (k : ℕ). take k (set room n b)) (add-one n) ∙ take-suc-set room n b h));
    next = f.next ∙ ap (λ (v : Hexed). v.next) e;
  }

-- ---- at a place

pub hex-full : (n : ℕ) (l : List ℕ) (at : ℕ) → 70 ≤ n → hex_from (70 - n) l at ≡ stopped at
unfolding hex_from
hex-full n l at h = let e : 70 - n ≡ 0 = omega arith in ap (λ (k : ℕ). hex_from k l at) e

hex-few : (k : ℕ) (l : List ℕ) (at : ℕ) → length l < 2 → hex_from k l at ≡ stopped at
unfolding hex_from
hex-few zero l at h = refl
hex-few (suc k) [] at h = refl
hex-few (suc k) (a ∷ []) at h = refl
hex-few (suc k) (a ∷ b ∷ l) at h = absurd (omega arith)

module _ (s : List ℕ) (i : ℕ) where
  pub hex-short : (k : ℕ) → length s < i + 2 → hex_from k (drop i s) i ≡ stopped i
  hex-short k h = hex-few k (drop i s) i (omega (arith, length-drop i s))

  module _ (h : i + 2 ≤ length s) where
    one : drop (i + 1) s ≡ get_or s (i + 1) 0 ∷ drop (i + 2) s
    one = let e : i + 1 + 1 ≡ i + 2 = omega arith in ahead s (i + 1) (omega arith) ∙ ap (λ (k : ℕ). get_or s (i + 1) 0 ∷ drop k s) e

    two : drop i s ≡ get_or s i 0 ∷ get_or s (i + 1) 0 ∷ drop (i + 2) s
    two = ahead s i (omega arith) ∙ ap (λ (l : List ℕ). get_or s i 0 ∷ l) one

    pub hex-blank : (k : ℕ) → (k ≡ 0 → ⊥) → blank (get_or s i 0) ≡ true → hex_from k (drop i s) i ≡ hex_from k (drop (i + 1) s) (i + 1)
    unfolding hex_from
    hex-blank zero n e = absurd (n refl)
    hex-blank (suc k) n e =
        ap (λ (l : List ℕ). hex_from (suc k) l i) two ∙ pick_yes _ _ _ e
        ∙ ap (λ (l : List ℕ). hex_from (suc k) l (suc i)) (sym one)
        ∙ ap (hex_from (suc k) (drop (i + 1) s)) (sym (add-one i))

    module _ (full : blank (get_or s i 0) ≡ false) where
      stop : (k : ℕ) → (ltb (hex_value (get_or s i 0)) 16 && ltb (hex_value (get_or s (i + 1) 0)) 16) ≡ false → hex_from k (drop i s) i ≡ stopped i
      unfolding hex_from
      stop zero e = refl
      stop (suc k) e = ap (λ (l : List ℕ). hex_from (suc k) l i) two ∙ pick_no _ _ _ full ∙ pick_no _ _ _ e

      -- one of the two is no digit
      pub first-stops : (k : ℕ) → hex_value (get_or s i 0) ≡ 16 → hex_from k (drop i s) i ≡ stopped i
      first-stops k e = stop k (and-left-fails _ (ltb (hex_value (get_or s (i + 1) 0)) 16) (le-ltb _ 16 (omega arith)))

      pub second-stops : (k : ℕ) → hex_value (get_or s (i + 1) 0) ≡ 16 → hex_from k (drop i s) i ≡ stopped i
      second-stops k e = stop k (and-right-fails (ltb (hex_value (get_or s i 0)) 16) _ (le-ltb _ 16 (omega arith)))

    module _ (full : blank (get_or s i 0) ≡ false) (high low : ℕ) (p : hex_value (get_or s i 0) ≡ high) (q : hex_value (get_or s (i + 1) 0) ≡ low) where
      pub hex-byte : (k : ℕ) → (k ≡ 0 → ⊥) → (high < 16) × (low < 16) → hex_from k (drop i s) i ≡ with_byte (16 * high + low) (hex_from (k - 1) (drop (i + 2) s) (i + 2))
      unfolding hex_from
      hex-byte zero n e = absurd (n refl)
      hex-byte (suc k) n e =
          let j : suc k - 1 ≡ k = omega arith in
          let m : i + 2 ≡ suc (suc i) = omega arith in
          ap (λ (l : List ℕ). hex_from (suc k) l i) two ∙ pick_no _ _ _ full
          ∙ pick_yes _ _ _ (rw (p, q) (and-join (lt-ltb high 16 e.0) (lt-ltb low 16 e.1))) ∙ rw (p, q, j, m)

      pub byte-read : {whole : Hexed} {room : List ℕ} {n : ℕ} → HexSofar whole room n (hex_from (70 - n) (drop i s) i) → n < 70 → n < length room → (high < 16) × (low < 16)
          → HexSofar whole (set room n (16 * high + low)) (n + 1) (hex_from (70 - (n + 1)) (drop (i + 2) s) (i + 2))
      byte-read {n = n} f h k d =
          let e : 70 - n - 1 ≡ 70 - (n + 1) = omega arith in
          hex-more f (hex-byte (70 - n) (λ z. omega arith) d ∙ ap (λ (j : ℕ). with_byte (16 * high + low) (hex_from j (drop (i + 2) s) (i + 2))) e) k
