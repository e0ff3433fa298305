-- The file in a room's first bytes.
use mathlib.Core.Bool.{true}
use mathlib.Core.List.{List, [], ◌++◌}
use mathlib.Core.Path.{◌≡◌, refl, sym, ap, ◌∙◌}
use Prim.Native.Nat.{ℕ, suc, ◌+◌, ◌-◌, ◌≤◌, ◌<◌}
use native.Mathlib.Omega.{arith}
use borrow.Author.Tests.{eq-eqb, ne_eqb}
use lib.Dec.{eqb}
use lib.ListN.{length, get_or, set, take, drop, length-append}
use lib.Seq.{length-take-le, take-suc, sets-eq, take_at}
use Rattle.sums.proofs.Choices.{pick_yes, pick_no}
use Rattle.text.specs.Numbers.{newline}
use Rattle.text.specs.Inner.{Puts}
use Rattle.text.proofs.Puts.{puts-length, puts_one}
use Rattle.archives.specs.Files.{begins_behind, ended}
use Rattle.archives.specs.Inner.{Holds}
use Rattle.archives.proofs.Lines.{behind-last}

-- as it is
pub holds_same : (room : List ℕ) (n : ℕ) → n ≤ length room → Holds room n (take n room)
holds_same room n l = record { within = l; is = refl }

-- by another name
pub holds_as : {room file text : List ℕ} {n : ℕ} → file ≡ text → Holds room n file → Holds room n text
holds_as e h = rw e at h

pub held-length : {room file : List ℕ} {n : ℕ} → Holds room n file → length file ≡ n
held-length {room} {n = n} h = sym (ap length h.is) ∙ length-take-le n room h.within

-- with a text behind it
pub holds_more : {room room' file text : List ℕ} {n m : ℕ} → Holds room n file → Puts room n text room' m → Holds room' m (file ++ text)
holds_more {room} {room'} {file} {text} {n} {m} h p = record { within = omega (arith, p.within, puts-length p); is = front }
  where
    front : take m room' ≡ file ++ text
    front =
        let e = p.holds ∙ sets-eq text room n (omega (arith, p.next, p.within)) ∙ ap (λ (f : List ℕ). (f ++ text) ++ drop (n + length text) room) h.is in
        ap (take m) e ∙ take_at (file ++ text) (drop (n + length text) room) m (length-append file text ∙ omega (arith, held-length h, p.next))

-- Its last line, ended.
module _ (room : List ℕ) (n : ℕ) where
  pub none-ended : n ≡ 0 → n ≤ length room → Holds room n (ended (take n room))
  unfolding ended begins_behind
  none-ended e l = record { within = l; is = rw e (sym (pick_yes true [] _ refl)) }

  module _ (l : n < length room) (some : 0 < n) where
    last_byte : begins_behind true (take n room) ≡ eqb (get_or room (n - 1) 0) newline
    last_byte =
        let k : n ≡ suc (n - 1) = omega arith in
        ap (λ (m : ℕ). begins_behind true (take m room)) k ∙ ap (begins_behind true) (take-suc room (n - 1) 0 (omega arith)) ∙ behind-last true (take (n - 1) room) _

    pub was-ended : get_or room (n - 1) 0 ≡ newline → Holds room n (ended (take n room))
    unfolding ended
    was-ended e = record { within = omega arith; is = sym (pick_yes _ (take n room) _ (last_byte ∙ eq-eqb _ newline e)) }

    pub then-ended : (get_or room (n - 1) 0 ≡ newline → ⊥) → Holds (set room n newline) (n + 1) (ended (take n room))
    unfolding ended
    then-ended e = holds_as (sym (pick_no _ (take n room) _ (last_byte ∙ ne_eqb _ newline e))) (holds_more (holds_same room n (omega arith)) (puts_one room n newline l))
