-- Laws of numbers as bytes, high byte first.
use mathlib.Core.Path.{◌≡◌, refl, sym, ap, ap₂, ◌∙◌}
use mathlib.Core.List.{List, [], ◌∷◌, ◌++◌}
use Prim.Native.Nat.{ℕ, zero, suc, ◌+◌, ◌*◌, ◌/◌, ◌%◌, ◌^◌, ◌≤◌, ◌<◌}
use native.Mathlib.Nat.{pow-succ', mul_assoc, add_comm, one-le-pow, le_of_suc-le-suc, add-mul-div_right, add-mul-mod_self_right, mod-eq_of_lt, not-suc-le-zero, zero-add, suc-add, add-mul, add_assoc, mul_comm, div-add-mod', div-div-eq-div-mul}
use native.Mathlib.Numerals.{add-one}
use native.Mathlib.Omega.{arith}
use lib.Arith.{mod-mul, digits_div, digits_lt}
use lib.Dec.{lit<}
use lib.ListN.{length, take, drop, get_or, length-drop}
use lib.Pow.{pow-add}
use lib.Seq.{drop_at, drop-cons, drop-drop, get_or-drop}
use Rattle.std.specs.Int.{w64, from_be_bytes}
use Rattle.numbers.specs.Bytes.{number, bytes_of, Bytes}

pow_pos : (k : ℕ) → 0 < 256 ^ k
pow_pos k = one-le-pow k 256 (lit< tt)

pub length-bytes_of : (k x : ℕ) → length (bytes_of k x) ≡ k
unfolding bytes_of
length-bytes_of zero x = refl
length-bytes_of (suc k) x = ap suc (length-bytes_of k x)

pub drop-bytes_of : (k x : ℕ) (t : List ℕ) → drop k (bytes_of k x ++ t) ≡ t
drop-bytes_of k x t = drop_at (bytes_of k x) t k (length-bytes_of k x)

number-mod : (k x : ℕ) (t : List ℕ) → number k (bytes_of k x ++ t) ≡ x % 256 ^ k
unfolding number bytes_of
number-mod zero x t = omega arith
number-mod (suc k) x t =
    ap (λ (n : ℕ). x / 256 ^ k % 256 * 256 ^ k + n) (number-mod k x t)
    ∙ sym (mod-mul x {m = 256} (lit< tt) (pow_pos k))
    ∙ ap (λ (n : ℕ). x % n) (sym (pow-succ' 256 k))

-- reading what was written
pub number-bytes_of : (k x : ℕ) (t : List ℕ) → x < 256 ^ k → number k (bytes_of k x ++ t) ≡ x
number-bytes_of k x t h = number-mod k x t ∙ mod-eq_of_lt h

bytes-tail : (b : ℕ) (l : List ℕ) → Bytes (b ∷ l) → Bytes l
bytes-tail b l h i = h (suc i)

pub bytes_drop : (k : ℕ) (l : List ℕ) → Bytes l → Bytes (drop k l)
bytes_drop k l h i = rw get_or-drop (h (k + i))

pub bytes_take : (n : ℕ) (l : List ℕ) → Bytes l → Bytes (take n l)
bytes_take zero l y i = omega arith
bytes_take (suc n) [] y i = omega arith
bytes_take (suc n) (x ∷ l) y zero = y 0
bytes_take (suc n) (x ∷ l) y (suc i) = bytes_take n l (λ j. y (suc j)) i

number_lt : (k : ℕ) (l : List ℕ) → Bytes l → number k l < 256 ^ k
unfolding number
number_lt zero l h = lit< tt
number_lt (suc k) [] h = pow_pos (suc k)
number_lt (suc k) (b ∷ l) h = rw pow-succ' (digits_lt (h 0) (number_lt k l (bytes-tail b l h)))

-- what stands above the k lowest bytes doesn't show in them
bytes_of-low : (k c x : ℕ) → bytes_of k (x + c * 256 ^ k) ≡ bytes_of k x
unfolding bytes_of
bytes_of-low zero c x = refl
bytes_of-low (suc k) c x =
    let e : c * 256 ^ suc k ≡ (c * 256) * 256 ^ k = rw (pow-succ', mul_assoc) in
    rw e (ap₂ (λ (n : ℕ) (l : List ℕ). n ∷ l)
    (rw (add-mul-div_right x (c * 256) (pow_pos k)) (add-mul-mod_self_right (x / 256 ^ k) c 256))
    (bytes_of-low k (c * 256) x))

-- writing what was read
pub bytes_of-number : (k : ℕ) (l : List ℕ) → Bytes l → k ≤ length l → bytes_of k (number k l) ++ drop k l ≡ l
unfolding number bytes_of
bytes_of-number zero l h n = refl
bytes_of-number (suc k) [] h n = absurd (not-suc-le-zero n)
bytes_of-number (suc k) (b ∷ l) h n =
    let small = number_lt k l (bytes-tail b l h) in
    ap₂ (λ (x : ℕ) (y : List ℕ). x ∷ y)
    (rw (digits_div b small) (mod-eq_of_lt (h 0)))
    (rw (add_comm (b * 256 ^ k) (number k l), bytes_of-low k b (number k l))
    (bytes_of-number k l (bytes-tail b l h) (le_of_suc-le-suc n)))

-- the first j bytes and the k after them
pub bytes_of-add : (j k x : ℕ) → bytes_of (j + k) x ≡ bytes_of j (x / 256 ^ k) ++ bytes_of k (x % 256 ^ k)
unfolding bytes_of
bytes_of-add zero k x =
    let e : x ≡ x % 256 ^ k + x / 256 ^ k * 256 ^ k = sym (add_comm (x % 256 ^ k) (x / 256 ^ k * 256 ^ k) ∙ div-add-mod' x (256 ^ k)) in
    rw zero-add (ap (bytes_of k) e ∙ bytes_of-low k (x / 256 ^ k) (x % 256 ^ k))
bytes_of-add (suc j) k x =
    let e : x / 256 ^ (j + k) ≡ x / 256 ^ k / 256 ^ j = rw (pow-add, mul_comm (256 ^ j) (256 ^ k)) (sym (div-div-eq-div-mul x (256 ^ k) (256 ^ j))) in
    rw (suc-add, e, bytes_of-add j k x)

number-nil : (k : ℕ) → number k [] ≡ 0
unfolding number
number-nil zero = refl
number-nil (suc k) = refl

number-add : (j k : ℕ) (l : List ℕ) → number (j + k) l ≡ number j l * 256 ^ k + number k (drop j l)
unfolding number
number-add zero k l = rw zero-add (omega arith)
number-add (suc j) k [] = rw (number-nil (suc j + k), number-nil k) (omega arith)
number-add (suc j) k (b ∷ l) =
    rw (suc-add, number-add j k l, pow-add 256 j k) (simp (add-mul, mul_assoc, add_assoc))

-- the same at a place of a list
pub number_at : (j k : ℕ) (s : List ℕ) (at : ℕ) → number (j + k) (drop at s) ≡ number j (drop at s) * 256 ^ k + number k (drop (at + j) s)
number_at j k s at = rw (number-add j k (drop at s), drop-drop)

-- the two bytes at a place, and the rest
pub two_at : (s : List ℕ) (at : ℕ) → at + 2 ≤ length s → drop at s ≡ get_or s at 0 ∷ get_or s (at + 1) 0 ∷ drop (at + 2) s
two_at s at h =
    let e : at + 2 ≡ suc (suc at) = omega arith in
    rw (e, add-one, drop-cons s at 0 (omega arith), drop-cons s (suc at) 0 (omega arith))

pub number-two : (s : List ℕ) (at : ℕ) → at + 2 ≤ length s → get_or s at 0 * 256 + get_or s (at + 1) 0 ≡ number 2 (drop at s)
unfolding number
number-two s at h = rw (two_at s at h) (omega arith)

-- eight bytes as four pairs
pub number-eight : (s : List ℕ) (at : ℕ) → (number 2 (drop at s) * 281474976710656 + number 2 (drop (at + 2) s) * 4294967296) + (number 2 (drop (at + 4) s) * 65536 + number 2 (drop (at + 6) s)) ≡ number 8 (drop at s)
number-eight s at =
    let e : at + 4 + 2 ≡ at + 6 = omega arith in
    let high : number 4 (drop at s) ≡ number 2 (drop at s) * 65536 + number 2 (drop (at + 2) s) = number_at 2 2 s at in
    let low : number 4 (drop (at + 4) s) ≡ number 2 (drop (at + 4) s) * 65536 + number 2 (drop (at + 6) s) = number_at 2 2 s (at + 4) ∙ ap (λ (n : ℕ). number 2 (drop (at + 4) s) * 65536 + number 2 (drop n s)) e in
    let all : number 8 (drop at s) ≡ number 4 (drop at s) * 4294967296 + number 4 (drop (at + 4) s) = number_at 4 4 s at in
    omega (arith, high, low, all)

-- eight bytes as the library puts them together
high-first : (l : List ℕ) → 8 ≤ length l → from_be_bytes w64 (take 8 l) ≡ number 8 l
unfolding number
high-first [] m = absurd (omega arith)
high-first (a ∷ []) m = absurd (omega arith)
high-first (a ∷ b ∷ []) m = absurd (omega arith)
high-first (a ∷ b ∷ c ∷ []) m = absurd (omega arith)
high-first (a ∷ b ∷ c ∷ d ∷ []) m = absurd (omega arith)
high-first (a ∷ b ∷ c ∷ d ∷ e ∷ []) m = absurd (omega arith)
high-first (a ∷ b ∷ c ∷ d ∷ e ∷ f ∷ []) m = absurd (omega arith)
high-first (a ∷ b ∷ c ∷ d ∷ e ∷ f ∷ g ∷ []) m = absurd (omega arith)
high-first (a ∷ b ∷ c ∷ d ∷ e ∷ f ∷ g ∷ h ∷ l) m = omega arith

pub eight-bytes : (s : List ℕ) (at : ℕ) → at + 8 ≤ length s → from_be_bytes w64 (take 8 (drop at s)) ≡ number 8 (drop at s)
eight-bytes s at h = high-first (drop at s) (omega (arith, length-drop at s))
