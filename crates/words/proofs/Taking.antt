-- Parts of a file taken one after the other, and what of them stands in a room.
use Rattle.std.proofs.Common.{◌≡◌, ℕ, suc, ◌+◌, ◌-◌, Bool, true, false, ◌&&◌, leb, List, [], ◌∷◌, ◌++◌, length, sym, refl, ap, ◌∙◌, append_assoc, append-nil, arith}
use Rattle.sums.specs.Room.{at_start}
use Rattle.sums.proofs.Choices.{pick_yes, pick_no}
use Rattle.text.specs.Inner.{Puts}
use Rattle.text.proofs.Puts.{puts_none, and_then, puts-at-start}
use Rattle.words.specs.declared.piece.Placed.{Placed}
use Rattle.std.specs.Prelude.{Result, Err}
use Rattle.words.specs.Texts.{moved, Turned, puts, fails, Meant, means, faulty, turned_by}
use Rattle.words.specs.Pieces.{Taking, stop, after, taken_by, taken_from, told_of}
use Rattle.words.specs.Inner.{goes, Stepped}

-- ---- one part more, or a stop

module _ (ready : List ℕ → Bool) (most : ℕ) (turn : ℕ → List ℕ → Turned) (room running : ℕ) where
  pub no_part : (xs : List (List ℕ)) → xs ≡ [] → taken_from ready most turn room running xs ≡ stop running 0
  unfolding taken_from
  no_part xs e = rw e

  module _ (xs : List (List ℕ)) (x : List ℕ) (rest : List (List ℕ)) (e : xs ≡ x ∷ rest) where
    pub not-ready : (ready x && leb most room) ≡ false → taken_from ready most turn room running xs ≡ stop running 0
    unfolding taken_from
    not-ready f = rw e (pick_no _ _ _ f)

    module _ (f : (ready x && leb most room) ≡ true) where
      pub part-fails : (n : ℕ) → turn running x ≡ fails n → taken_from ready most turn room running xs ≡ stop running n
      unfolding taken_from taken_by
      part-fails n t = rw (e, t) (pick_yes _ _ _ f)

      pub part-taken : (y : List ℕ) (next : ℕ) → turn running x ≡ puts y next → taken_from ready most turn room running xs ≡ after x y (taken_from ready most turn (room - length y) next rest)
      unfolding taken_from taken_by
      part-taken y next t = rw (e, t) (pick_yes _ _ _ f)

-- ---- what a step gave

module _ (t : Turned) (room : List ℕ) (at : ℕ) (r : Result Placed ℕ) (room' : List ℕ) (s : Stepped t room at r room') where
  pub step-failed : (n : ℕ) → r ≡ Err n → (t ≡ fails n) × (room' ≡ room)
  unfolding Stepped
  step-failed n e = by t s
    where
      by : (t : Turned) → Stepped t room at r room' → (t ≡ fails n) × (room' ≡ room)
      by (puts y next) h = absurd (let k = h.0 in let z : ◌≡◌ {A = ℕ} 0 1 = cc in omega arith)
      by (fails m) h = let k = h.0 in (cc, h.1)

-- what was put by a step that didn't fail
pub record Went (t : Turned) (room : List ℕ) (at : ℕ) (room' : List ℕ) (p next : ℕ) : Type 0 where
  pub bytes : List ℕ
  pub is : t ≡ puts bytes next
  pub put : Puts room at bytes room' p

pub step_went : (t : Turned) (room : List ℕ) (at : ℕ) (r : Result Placed ℕ) (room' : List ℕ) (p next : ℕ) → Stepped t room at r room' → r ≡ goes p next → Went t room at room' p next
unfolding Stepped
step_went (puts y n) room at r room' p next h e =
    let k = h.0 in
    let placed : (record { after = at + length y; running = n }) ≡ (record { after = p; running = next }) = cc in
    let same : n ≡ next = ap (λ (q : Placed). q.running) placed in
    let place : at + length y ≡ p = ap (λ (q : Placed). q.after) placed in
    record { bytes = y; is = ap (puts y) same; put = rw place at h.1 }
step_went (fails m) room at r room' p next h e = absurd (let k = h.0 in let z : ◌≡◌ {A = ℕ} 0 1 = cc in omega arith)

pub line-went : (m : Meant) (x : List ℕ) (running : ℕ) (room : List ℕ) (at p next : ℕ) (room' : List ℕ) → m ≡ means x → Puts room at x room' p → next ≡ moved running x
    → Stepped (turned_by running m) room at (goes p next) room'
unfolding turned_by Stepped
line-went m x running room at p next room' e f n = rw (e, n, f.next) (refl, rw f.next at f)

pub line-failed : (m : Meant) (n running : ℕ) (room : List ℕ) (at : ℕ) → m ≡ faulty n → Stepped (turned_by running m) room at (Err n) room
unfolding turned_by Stepped
line-failed m n running room at e = rw e (refl, refl)

-- ---- so far

abbrev ahead : List ℕ → ℕ → ℕ → Taking → Taking
ahead x place lines t = record { bytes = x ++ t.bytes; place = place + t.place; lines = lines + t.lines; running = t.running; fault = t.fault }

-- what is taken in all, where so much of it was taken and stands in the room
pub record Sofar (whole : Taking) (room₀ room : List ℕ) (place lines count : ℕ) (rest : Taking) : Type 0 where
  pub bytes : List ℕ
  pub put : Puts room₀ 0 bytes room count
  pub is : whole ≡ ahead bytes place lines rest

pub begun : (whole : Taking) (room : List ℕ) → Sofar whole room room 0 0 0 whole
begun whole room =
    let p : 0 + whole.place ≡ whole.place = omega arith in
    let l : 0 + whole.lines ≡ whole.lines = omega arith in
    record { bytes = []; put = puts_none room 0 refl (omega arith); is = rw (p, l) }

module _ {whole : Taking} {room₀ room : List ℕ} {place lines count : ℕ} {rest : Taking} (f : Sofar whole room₀ room place lines count rest) where
  pub one-part : (x y : List ℕ) (rest' : Taking) → rest ≡ after x y rest' → (room' : List ℕ) (p : ℕ) → Puts room count y room' p
      → Sofar whole room₀ room' (place + length x) (lines + 1) p rest'
  one-part x y rest' e room' p g =
      let a : place + (length x + rest'.place) ≡ place + length x + rest'.place = omega arith in
      let b : lines + suc rest'.lines ≡ lines + 1 + rest'.lines = omega arith in
      record {
        bytes = f.bytes ++ y;
        put = and_then f.bytes y f.put g;
        is = f.is ∙ ap (ahead f.bytes place lines) e ∙ rw (a, b, append_assoc f.bytes y rest'.bytes);
      }

  pub over : (next fault : ℕ) → rest ≡ stop next fault
      → (record { place = place; lines = lines; count = count; running = next; fault = fault } ≡ told_of whole) × (room ≡ at_start whole.bytes room₀)
  over next fault e =
      let w : whole ≡ ahead f.bytes place lines (stop next fault) = f.is ∙ ap (ahead f.bytes place lines) e in
      let s = puts-at-start f.put in
      let a : place + 0 ≡ place = omega arith in
      let b : lines + 0 ≡ lines = omega arith in
      let x : whole.bytes ≡ f.bytes = ap (λ (t : Taking). t.bytes) w ∙ append-nil f.bytes in
      (rw (w, append-nil f.bytes, a, b, ← s.0), s.1 ∙ ap (λ (l : List ℕ). at_start l room₀) (sym x))

pub as-told : {A B : Type 0} {r x y : A} {room room' : B} → r ≡ x → (x ≡ y) × (room ≡ room') → (r ≡ y) × (room ≡ room')
as-told e h = (e ∙ h.0, h.1)
