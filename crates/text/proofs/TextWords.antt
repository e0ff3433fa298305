-- A number's text as a word: its bytes, and what they put into a room.
use mathlib.Core.List.{List, [], ◌∷◌, ◌++◌, append_assoc}
use mathlib.Core.Path.{◌≡◌, refl, sym, ap, ◌∙◌}
use Prim.Native.Nat.{ℕ, suc, ◌+◌, ◌-◌, ◌*◌, ◌/◌, ◌%◌, ◌≤◌, ◌<◌}
use native.Mathlib.Omega.{arith}
use native.Mathlib.Decide.{ℕ_discrete}
use lib.ListN.{length, set, take, drop, get_or, length-append, take-append-drop}
use lib.Seq.{take-append_seam, get_or-set_same, get_or-set_other}
use Rattle.text.specs.Numbers.{digit, space, decimal, followed}
use Rattle.text.specs.Inner.{put, Puts, Spills, three, four_of, IsText}
use Rattle.text.proofs.Digits.{decimal-thousand}
use Rattle.text.proofs.Puts.{puts-as, puts-length}
use Rattle.text.proofs.Spilling.{put-over, spill-next, spills-none}
use Rattle.text.proofs.Widths.{some_number}

pub four_same : {a b c d a' b' c' d' : ℕ} → a ≡ a' → b ≡ b' → c ≡ c' → d ≡ d' → a ∷ b ∷ c ∷ d ∷ [] ≡ a' ∷ b' ∷ c' ∷ d' ∷ []
four_same e f g h = cc

pub four-word : (a b c d : ℕ) → a < 256 → b < 256 → c < 256 → d < 256 → four_of (a + 256 * b + 65536 * c + 16777216 * d) ≡ a ∷ b ∷ c ∷ d ∷ []
four-word a b c d ha hb hc hd = four_same (omega arith) (omega arith) (omega arith) (omega arith)

-- a word of two halves
module _ (low high : ℕ) (hl : low < 4294967296) (hh : high < 4294967296) where
  low-four : four_of (low + 4294967296 * high) ≡ four_of low
  low-four = four_same (omega arith) (omega arith) (omega arith) (omega arith)

  high_half : (low + 4294967296 * high) / 4294967296 ≡ high
  high_half = omega arith

  highest : (low + 4294967296 * high) / 72057594037927936 ≡ high / 16777216
  highest = omega arith

  pub is-text : (n : ℕ) (text rest : List ℕ) → followed n space ≡ text → four_of low ≡ text ++ rest
      → four_of high ≡ digit (n / 100) ∷ digit (n / 10 % 10) ∷ digit (n % 10) ∷ length text ∷ [] → IsText n (low + 4294967296 * high)
  is-text n text rest t e f =
      let three-digits : four_of high ≡ three n ++ (length text ∷ []) = f ∙ four_same refl (omega arith) (omega arith) refl in
      let begins : take (length text) (four_of (low + 4294967296 * high)) ≡ text = ap (take (length text)) (low-four ∙ e) ∙ take-append_seam text rest in
      let size : (low + 4294967296 * high) / 72057594037927936 ≡ length text = highest ∙ omega (arith, ap (λ (l : List ℕ). get_or l 3 0) f) in record {
        begins = rw t begins;
        padded = ap (λ (x : ℕ). take 3 (four_of x)) high_half ∙ ap (take 3) three-digits;
        size = rw t size;
      }

-- four bytes put one by one
pub four-put : (room : List ℕ) (at a b c d : ℕ) → at + 4 ≤ length room
    → Puts room at (a ∷ b ∷ c ∷ d ∷ []) (set (set (set (set room at a) (at + 1) b) (at + 2) c) (at + 3) d) (at + 4)
four-put room at a b c d h =
    let e : at + 1 ≡ suc at = omega arith in
    let f : at + 2 ≡ suc (suc at) = omega arith in
    let g : at + 3 ≡ suc (suc (suc at)) = omega arith in
    record { holds = rw (e, f, g); next = refl; within = h }

-- a word's four lowest bytes are the text and at most two bytes more
pub text-spills : {room room' : List ℕ} {at : ℕ} (n x : ℕ) → IsText n x → Puts room at (four_of x) room' (at + 4)
    → Spills room at (followed n space) room' (at + x / 72057594037927936)
text-spills {room} {room'} {at} n x t f =
    let text = followed n space in
    let rest = drop (length text) (four_of x) in
    let whole : four_of x ≡ text ++ rest = sym (take-append-drop (length text) (four_of x)) ∙ ap (λ (l : List ℕ). l ++ rest) t.begins in
    let size : 4 ≡ length text + length rest = ap length whole ∙ length-append text rest in record {
      over = rest;
      few = omega (arith, some_number n space);
      puts = record {
        holds = f.holds ∙ ap (put room at) whole;
        next = omega (arith, t.size, length-append text rest);
        within = omega (arith, t.size, f.within);
      };
    }

-- three digits and a space, put over the space behind the thousands
pub thousand-more : {room room₁ room₂ : List ℕ} {at q : ℕ} (n y : ℕ) → 1000 ≤ n → Spills room at (followed (n / 1000) space) room₁ q
    → Puts room₁ (q - 1) (four_of y) room₂ (q - 1 + 4) → take 3 (four_of y) ≡ three (n % 1000)
    → Spills room at (followed n space) (set room₂ (q - 1 + 3) space) (q - 1 + 4)
thousand-more {room} {room₁} {room₂} {at} {q} n y h f g t =
    let first = decimal (n / 1000) in
    let last = y / 16777216 % 256 in
    let place : q - 1 ≡ at + length first = omega (arith, spill-next f, length-append first (space ∷ [])) in
    let digits : Puts room at (first ++ four_of y) room₂ (q - 1 + 4) =
    put-over first (space ∷ f.over) (four_of y) (omega (arith, f.few)) place (puts-as (append_assoc first (space ∷ []) f.over) f.puts) g in
    let whole : first ++ four_of y ≡ decimal n ++ (last ∷ []) =
    ap (λ (l : List ℕ). first ++ (l ++ (last ∷ []))) t ∙ sym (append_assoc first (three (n % 1000)) (last ∷ []))
    ∙ ap (λ (l : List ℕ). l ++ (last ∷ [])) (sym (decimal-thousand n h)) in
    let shown = puts-as whole digits in
    let next : q - 1 + 3 ≡ at + length (decimal n) = omega (arith, shown.next, length-append (decimal n) (last ∷ [])) in
    spills-none (put-over (decimal n) (last ∷ []) (space ∷ []) (omega arith) next shown
    (record { holds = refl; next = omega arith; within = omega (arith, shown.within, puts-length shown) }))

-- one text more in the table
pub texts-more : (t : List ℕ) (n x : ℕ) → n < length t → ((k : ℕ) → k < n → IsText k (get_or t k 0)) → IsText n x
    → (k : ℕ) → k < n + 1 → IsText k (get_or (set t n x) k 0)
texts-more t n x h before new k m = by (ℕ_discrete k n)
  where
    by : Dec (k ≡ n) → IsText k (get_or (set t n x) k 0)
    by (yes q) = rw (q, get_or-set_same t n x 0 h) new
    by (no q) = rw (get_or-set_other t n k x 0 q) (before k (omega arith))
