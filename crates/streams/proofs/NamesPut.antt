-- The name of a try, byte by byte, and the mark put behind a name.
use mathlib.Core.List.{List, [], ◌∷◌, ◌++◌, append_assoc}
use mathlib.Core.Path.{◌≡◌, sym, ap, ◌∙◌}
use Prim.Native.Nat.{ℕ, suc, ◌+◌, ◌-◌, ◌/◌, ◌%◌, ◌≤◌, ◌<◌}
use native.Mathlib.Numerals.{add-one}
use native.Mathlib.Omega.{arith}
use lib.ListN.{length, take, get_or, set, length-set, length-append}
use lib.Seq.{take_all, take_at, take-suc, take-suc-set, length-take-le}
use Rattle.streams.specs.Names.{beside_mark, try_digits, name_of}

-- three bytes put one behind the other
pub three-put : (room : List ℕ) (i x y z : ℕ) → i + 3 ≤ length room
    → take (i + 3) (set (set (set room i x) (i + 1) y) (i + 2) z) ≡ take i room ++ (x ∷ y ∷ z ∷ [])
three-put room i x y z h =
    let a = set room i x in
    let b = set a (i + 1) y in
    let e : suc (i + 2) ≡ i + 3 = omega arith in
    let f : suc (i + 1) ≡ i + 2 = omega arith in
    let g : suc i ≡ i + 1 = omega arith in
    ap (λ n. take n (set b (i + 2) z)) (sym e)
    ∙ take-suc-set b (i + 2) z (simp length-set (omega arith))
    ∙ ap (λ n. take n b ++ (z ∷ [])) (sym f)
    ∙ ap (λ l. l ++ (z ∷ [])) (take-suc-set a (i + 1) y (simp length-set (omega arith)))
    ∙ ap (λ n. (take n a ++ (y ∷ [])) ++ (z ∷ [])) (sym g)
    ∙ ap (λ l. (l ++ (y ∷ [])) ++ (z ∷ [])) (take-suc-set room i x (omega arith))
    ∙ append_assoc (take i room ++ (x ∷ [])) (y ∷ []) (z ∷ [])
    ∙ append_assoc (take i room) (x ∷ []) (y ∷ z ∷ [])

-- the two digits put at the end of a name
pub two-put : (name : List ℕ) (k last : ℕ) → 2 ≤ length name → last ≡ length name - 1
    → set (set name (last - 1) (48 + k / 10)) last (48 + k % 10) ≡ name_of k name
unfolding name_of
two-put name k last h e =
    let i = length name - 2 in
    let a = set name (last - 1) (48 + k / 10) in
    let f : suc last ≡ length name = omega arith in
    let g : suc (last - 1) ≡ last = omega arith in
    let j : last - 1 ≡ i = omega arith in
    sym (take_all (suc last) (set a last (48 + k % 10)) (simp length-set (omega arith)))
    ∙ take-suc-set a last (48 + k % 10) (simp length-set (omega arith))
    ∙ ap (λ n. take n a ++ ((48 + k % 10) ∷ [])) (sym g)
    ∙ ap (λ l. l ++ ((48 + k % 10) ∷ [])) (take-suc-set name (last - 1) (48 + k / 10) (omega arith))
    ∙ ap (λ n. (take n name ++ ((48 + k / 10) ∷ [])) ++ ((48 + k % 10) ∷ [])) j
    ∙ append_assoc (take i name) ((48 + k / 10) ∷ []) ((48 + k % 10) ∷ [])

pub length-name : (k : ℕ) (name : List ℕ) → 2 ≤ length name → length (name_of k name) ≡ length name
unfolding name_of
length-name k name h = length-append (take (length name - 2) name) (try_digits k) ∙ omega (arith, length-take-le (length name - 2) name (omega arith))

-- the digits of the try before are gone
pub name-anew : (k m : ℕ) (name : List ℕ) → 2 ≤ length name → name_of k (name_of m name) ≡ name_of k name
unfolding name_of
name-anew k m name h =
    let i = length name - 2 in
    let e : length (name_of m name) - 2 ≡ i = omega (arith, length-name m name h) in
    ap (λ n. take n (name_of m name) ++ try_digits k) e ∙ ap (λ l. l ++ try_digits k) (take_at (take i name) (try_digits m) i (length-take-le i name (omega arith)))

pub anew-from : {name first : List ℕ} (before : List ℕ) (k m : ℕ) → 2 ≤ length before → first ≡ name_of m before → name ≡ name_of k first → name ≡ name_of k before
anew-from before k m h e f = f ∙ ap (name_of k) e ∙ name-anew k m before h

pub first-name : {first : List ℕ} {k : ℕ} (before : List ℕ) → k ≡ 0 → 2 ≤ length before → first ≡ name_of 0 before → first ≡ name_of k first
first-name {first} {k} before e h f = f ∙ sym (name-anew 0 0 before h) ∙ ap (λ n. name_of n (name_of 0 before)) (sym e) ∙ ap (name_of k) (sym f)

pub same_size : {name : List ℕ} (before : List ℕ) (k : ℕ) → 2 ≤ length before → name ≡ name_of k before → length name ≡ length before
same_size before k h e = ap length e ∙ length-name k before h

-- a name copied byte by byte, and the mark behind it
pub byte-copied : (name room : List ℕ) (i : ℕ) → i < length name → i < length room → take i room ≡ take i name
    → take (i + 1) (set room i (get_or name i 0)) ≡ take (i + 1) name
byte-copied name room i h k e = rw add-one (take-suc-set room i (get_or name i 0) k ∙ ap (λ l. l ++ (get_or name i 0 ∷ [])) e ∙ sym (take-suc name i 0 h))

pub mark-put : (name room : List ℕ) (i : ℕ) → i + 3 ≤ length room → i ≡ length name → take i room ≡ take i name
    → take (i + 3) (set (set (set room i 46) (i + 1) 48) (i + 2) 48) ≡ name ++ beside_mark
mark-put name room i h k e = three-put room i 46 48 48 h ∙ ap (λ l. l ++ beside_mark) (e ∙ take_all i name (omega arith))
