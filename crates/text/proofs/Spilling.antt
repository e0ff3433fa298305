-- Texts put into a room over what the last one left behind itself.
use mathlib.Core.List.{List, [], ◌∷◌, ◌++◌, append-nil}
use mathlib.Core.Path.{◌≡◌, refl, sym, ap, ◌∙◌}
use Prim.Native.Nat.{ℕ, suc, ◌+◌, ◌≤◌, ◌<◌}
use native.Mathlib.Omega.{arith}
use lib.ListN.{length, set, length-append}
use lib.Seq.{set-set, set_comm}
use Rattle.text.specs.Inner.{put, Puts, Spills}
use Rattle.text.proofs.Puts.{put-put, puts-length}

-- a byte put before a text
set_before : (room : List ℕ) (i j b : ℕ) (y : List ℕ) → i < j → set (put room j y) i b ≡ put (set room i b) j y
set_before room i j b [] h = refl
set_before room i j b (a ∷ y) h =
    set_before (set room j a) i (suc j) b y (omega arith) ∙ ap (λ (r : List ℕ). put r (suc j) y) (set_comm room j i a b (λ e. omega arith))

-- a text over one that is no longer
put-again : (room : List ℕ) (at : ℕ) (y z : List ℕ) → length y ≤ length z → put (put room at y) at z ≡ put room at z
put-again room at [] z h = refl
put-again room at (a ∷ y) [] h = absurd (omega arith)
put-again room at (a ∷ y) (b ∷ z) h =
    ap (λ (r : List ℕ). put r (suc at) z)
    (set_before (set room at a) at (suc at) b y (omega arith) ∙ ap (λ (r : List ℕ). put r (suc at) y) (set-set room at a b))
    ∙ put-again (set room at b) (suc at) y z (omega arith)

-- the second part of a text put over
pub put-over : {room room₁ room₂ : List ℕ} {at p q r : ℕ} (x y z : List ℕ) → length y ≤ length z → p ≡ at + length x → Puts room at (x ++ y) room₁ q
    → Puts room₁ p z room₂ r → Puts room at (x ++ z) room₂ r
put-over {room} {room₁} {room₂} {at} {p} {q} {r} x y z h e f g = record {
  holds = g.holds ∙ ap (λ (l : List ℕ). put l p z) f.holds ∙ ap (λ (i : ℕ). put (put room at (x ++ y)) i z) e
      ∙ ap (λ (l : List ℕ). put l (at + length x) z) (sym (put-put room at x y)) ∙ put-again (put room at x) (at + length x) y z h ∙ put-put room at x z;
  next = omega (arith, e, g.next, length-append x z);
  within = omega (arith, g.within, puts-length f);
}

module _ {room room₁ : List ℕ} {at p : ℕ} {x : List ℕ} (f : Spills room at x room₁ p) where
  pub spill-next : p ≡ at + length x
  spill-next = omega (arith, f.puts.next, length-append x f.over)

  -- a text of two bytes or more after one that spills: nothing is left of what it spilt
  pub then-put : {room₂ : List ℕ} {q : ℕ} (y : List ℕ) → 2 ≤ length y → Puts room₁ p y room₂ q → Puts room at (x ++ y) room₂ q
  then-put y h g = put-over x f.over y (omega (arith, f.few)) spill-next f.puts g

-- a text that spills nothing
pub spills-none : {room room₁ x : List ℕ} {at p : ℕ} → Puts room at x room₁ p → Spills room at x room₁ p
spills-none {room} {room₁} {x} {at} {p} f =
    let nothing : x ++ [] ≡ x = append-nil x in record {
      over = [];
      few = omega arith;
      puts = record { holds = f.holds ∙ ap (put room at) (sym nothing); next = omega (arith, f.next, ap length nothing); within = omega (arith, f.within) };
    }
