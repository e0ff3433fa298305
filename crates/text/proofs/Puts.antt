-- Texts put into a room, one after the other and byte by byte.
use mathlib.Core.List.{List, [], ◌∷◌, ◌++◌}
use mathlib.Core.Path.{◌≡◌, refl, sym, ap, ◌∙◌}
use Prim.Native.Nat.{ℕ, suc, ◌+◌, ◌≤◌, ◌<◌}
use native.Mathlib.Numerals.{add-one}
use native.Mathlib.Omega.{arith}
use lib.ListN.{length, set, take, drop, get_or, length-append}
use lib.Seq.{sets-eq, length-sets, length-take-le, take-suc}
use Rattle.sums.specs.Room.{at_start}
use Rattle.text.specs.Inner.{put, Puts}

-- nothing put
pub puts_none : (room : List ℕ) (at : ℕ) {p : ℕ} → p ≡ at → at ≤ length room → Puts room at [] room p
puts_none room at e h = record { holds = refl; next = omega arith; within = omega arith }

-- one byte put
pub puts_one : (room : List ℕ) (at a : ℕ) → at < length room → Puts room at (a ∷ []) (set room at a) (at + 1)
puts_one room at a h = record { holds = refl; next = refl; within = omega arith }

-- a text, and another one after it
pub put-put : (room : List ℕ) (at : ℕ) (x y : List ℕ) → put (put room at x) (at + length x) y ≡ put room at (x ++ y)
put-put room at [] y = ap (λ (i : ℕ). put room i y) (omega arith)
put-put room at (a ∷ x) y =
    let e : at + length (a ∷ x) ≡ suc at + length x = omega arith in
    ap (λ (i : ℕ). put (put (set room at a) (suc at) x) i y) e ∙ put-put (set room at a) (suc at) x y

pub puts-length : {room room₁ x : List ℕ} {at p : ℕ} → Puts room at x room₁ p → length room₁ ≡ length room
puts-length {room} {x = x} {at = at} f = ap length f.holds ∙ length-sets room at x

-- a text by another name
pub puts-as : {room text text' room' : List ℕ} {at n : ℕ} → text ≡ text' → Puts room at text room' n → Puts room at text' room' n
puts-as e p = rw (sym e) p

-- what of a room is handed over is the text put there
pub handed : {room text room' : List ℕ} {n count : ℕ} → Puts room 0 text room' n → count ≡ length (take n room') → count ≡ length text
handed {room} {text} {room'} {n} p e = omega (arith, p.next, length-take-le n room' (omega (arith, p.within, puts-length p)))

-- one more text, where the last one ended
pub and_then : {room room₁ room₂ : List ℕ} {at p q : ℕ} (x y : List ℕ) → Puts room at x room₁ p → Puts room₁ p y room₂ q → Puts room at (x ++ y) room₂ q
and_then {room} {room₁} {room₂} {at} {p} {q} x y f g = record {
  holds = g.holds ∙ ap (λ (r : List ℕ). put r p y) f.holds ∙ ap (λ (i : ℕ). put (put room at x) i y) f.next ∙ put-put room at x y;
  next = omega (arith, f.next, g.next, length-append x y);
  within = omega (arith, g.within, puts-length f);
}

-- a text put byte by byte
pub byte_at : {room₀ room : List ℕ} {at i : ℕ} (text : List ℕ) → i < length text → at + length text ≤ length room₀
    → Puts room₀ at (take i text) room (at + i) → Puts room₀ at (take (i + 1) text) (set room (at + i) (get_or text i 0)) (at + (i + 1))
byte_at {at = at} {i = i} text h m f =
    let e : take (i + 1) text ≡ take i text ++ (get_or text i 0 ∷ []) = ap (λ (j : ℕ). take j text) (add-one i) ∙ take-suc text i 0 h in
    rw e (and_then (take i text) (get_or text i 0 ∷ []) f (record { holds = refl; next = omega arith; within = omega (arith, puts-length f) }))

-- a text at the room's start
pub puts-at-start : {room text room' : List ℕ} {after : ℕ} → Puts room 0 text room' after → (after ≡ length text) × (room' ≡ at_start text room)
puts-at-start {room} {text} f =
    let e : 0 + length text ≡ length text = omega arith in
    (f.next ∙ e, f.holds ∙ sets-eq text room 0 (omega (arith, f.next, f.within)) ∙ ap (λ (i : ℕ). text ++ drop i room) e)

-- it is within the room
pub text-within-room : (n : ℕ) (text room after : List ℕ) → n ≡ length text → after ≡ at_start text room → n ≤ length after
text-within-room n text room after h e = omega (arith, ap length e, length-append text (drop (length text) room))
