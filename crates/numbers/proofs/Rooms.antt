-- Laws of bytes put into a room, one run after another.
use mathlib.Core.Path.{◌≡◌, refl, sym, ap, ◌∙◌}
use mathlib.Core.List.{List, [], ◌∷◌, ◌++◌, append_assoc}
use Prim.Native.Nat.{ℕ, zero, suc, ◌+◌, ◌-◌, ◌/◌, ◌%◌, ◌^◌, ◌≤◌}
use native.Mathlib.Nat.{add-zero, add-suc, suc-add, div-one}
use native.Mathlib.Omega.{arith}
use borrow.Rule.Slice.PartMut.{put_mid}
use lib.ListN.{length, take, set}
use lib.Seq.{drop-drop, sets, sets-eq}
use Rattle.std.specs.Int.{bytes_high_first}
use Rattle.numbers.specs.Bytes.{bytes_of}
use Rattle.numbers.proofs.Numbers.{length-bytes_of, bytes_of-add}

-- two runs, one after the other, are one
pub sets-append : (vs ws l : List ℕ) (i : ℕ) → sets (sets l i vs) (i + length vs) ws ≡ sets l i (vs ++ ws)
sets-append [] ws l i = rw add-zero
sets-append (v ∷ vs) ws l i = rw (add-suc, ← suc-add) (sets-append vs ws (set l i v) (suc i))

-- the high j bytes of x and then its low k bytes
pub sets-both : (l m n : List ℕ) (j k at x : ℕ) → m ≡ sets l at (bytes_of j (x / 256 ^ k)) → n ≡ sets m (at + j) (bytes_of k (x % 256 ^ k))
    → n ≡ sets l at (bytes_of (j + k) x)
sets-both l m n j k at x p q =
    let high = bytes_of j (x / 256 ^ k) in
    let low = bytes_of k (x % 256 ^ k) in
    q
    ∙ ap (λ (r : List ℕ). sets r (at + j) low) p
    ∙ ap (λ (i : ℕ). sets (sets l at high) (at + i) low) (sym (length-bytes_of j (x / 256 ^ k)))
    ∙ rw (bytes_of-add j k x) (sets-append high low l at)

-- the library's bytes of x, high byte first
high-first : (k x : ℕ) → bytes_high_first k x ≡ bytes_of k x
unfolding bytes_of
high-first zero x = refl
high-first (suc zero) x = rw div-one refl
high-first (suc (suc k)) x = ap (λ (l : List ℕ). x / 256 ^ suc k % 256 ∷ l) (high-first (suc k) x)

-- x's k bytes copied into the part of a room that begins at a place
pub copied : (room part : List ℕ) (at k x : ℕ) → part ≡ bytes_high_first k x → at + k ≤ length room → put_mid at (at + k - at) room part ≡ sets room at (bytes_of k x)
copied room part at k x e h =
    let n : at + k - at ≡ k = omega arith in
    let long = length-bytes_of k x in
    rw (n, e ∙ high-first k x) (sym (sets-eq (bytes_of k x) room at (omega (arith, long)) ∙ append_assoc (take at room) (bytes_of k x) _ ∙ rw (long, drop-drop) refl))
