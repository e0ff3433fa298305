-- What is put into a lent room, and the answer.
use Rattle.std.proofs.Common.{◌≡◌, ℕ, zero, suc, ◌+◌, ◌*◌, ◌<◌, ◌≤◌, Bool, true, false, ◌&&◌, ◌||◌, eqb, ltb, leb, ◌⊎◌, List, [], ◌∷◌, ◌++◌, length, take, drop, sym, refl, ap, ◌∙◌, inl, inr, arith, ltb-false, ltb-true, eq-eqb, ne_eqb, le-leb}
use lib.Seq.{sets, sets-eq, take-append_seam}
use borrow.Author.Tests.{lt-leb}
use Rattle.sums.specs.Choice.{pick}
use Rattle.sums.proofs.Choices.{pick_yes, pick_no, and-join, and-left-fails, and-right-fails, or_split, or-fails}
use Rattle.dayfile.specs.declared.Record.{Record}
use Rattle.dayfile.specs.declared.Wrote.{Wrote}
use Rattle.dayfile.specs.declared.Wrote.TheVariants.{Written, Refused}
use Rattle.dayfile.specs.Written.{written_of, wrote_of, room_after}
use Rattle.dayfile.proofs.Answers.{write_done}
use Rattle.dayfile.proofs.Good.{no-fault-good, suits-lt}
use Rattle.dayfile.proofs.Lengths.{length-written, size-most}
use Rattle.text.specs.Inner.{Puts}
use Rattle.text.proofs.Puts.{puts-at-start}
use Rattle.words.specs.declared.unhex.Count.{Count}
use Rattle.words.specs.declared.Line.{Line}
use Rattle.words.specs.declared.Line.TheVariants.{Nothing, Says, Raw, Bad}
use Rattle.words.specs.Tokens.{blank, ends_at}
use Rattle.words.specs.Saying.{line_says}
use Rattle.words.specs.Hex.{hex_value, Hexed, stopped, with_byte, hex_from}
use Rattle.words.specs.Texts.{Meant, means, faulty, raw_meant, meant_by, meant}
use Rattle.words.specs.Rooms.{put_answer, put_room, meant_answer, meant_room}
use Rattle.words.specs.Inner.{Unhexed, Held}
use Rattle.words.proofs.GoodLines.{line-good}

module _ (x room : List ℕ) where
  pub all_short : length room < length x → (Refused 15 ≡ put_answer 0 x room) × (room ≡ put_room 0 x room)
  unfolding put_answer put_room pick
  all_short h = let e = lt-leb (length x) (length room) h in (rw e refl, rw e refl)

  pub all-put : {room' : List ℕ} {n : ℕ} → Puts room 0 x room' n → (Written n ≡ put_answer 0 x room) × (room' ≡ put_room 0 x room)
  unfolding put_answer put_room pick
  all-put p =
      let s = puts-at-start p in
      let e = le-leb (length x) (length room) (let w = p.within in omega (arith, s.0)) in
      (rw e (ap Written s.0), rw e s.1)

  pub refused_all : (k n : ℕ) → k ≡ n → (k ≡ 0 → ⊥) → (Refused k ≡ put_answer n x room) × (room ≡ put_room n x room)
  unfolding put_answer put_room
  refused_all zero n e h = absurd (h refl)
  refused_all (suc k) n e h = rw (← e) (refl, refl)

-- the same bytes by another name, and not refused
pub as-put : (x y room room' : List ℕ) (k : ℕ) (r : Wrote) → y ≡ x → k ≡ 0 → (r ≡ put_answer 0 y room) × (room' ≡ put_room 0 y room) → (r ≡ put_answer k x room) × (room' ≡ put_room k x room)
as-put x y room room' k r e z h = rw (z, ← e) h

-- the text that was put at a room's start stands there
pub stands : {room x room' : List ℕ} {n : ℕ} → Puts room 0 x room' n → take n room' ≡ x
stands {room} {x} p = let s = puts-at-start p in rw (s.0, s.1) (take-append_seam x (drop (length x) room))

pub counted : {room x room' : List ℕ} {n : ℕ} → Puts room 0 x room' n → n ≡ length (take n room')
counted p = (puts-at-start p).0 ∙ sym (ap length (stands p))

-- 1 to 70 bytes
module _ (n : ℕ) where
  pub raw-bad : (ltb n 1 || ltb 70 n) ≡ true → ◌≡◌ {A = ℕ} (pick (leb 1 n && leb n 70) 0 32) 32
  raw-bad e = by (or_split (ltb n 1) (ltb 70 n) e)
    where
      by : (ltb n 1 ≡ true) ⊎ (ltb 70 n ≡ true) → ◌≡◌ {A = ℕ} (pick (leb 1 n && leb n 70) 0 32) 32
      by (inl t) = pick_no _ _ _ (and-left-fails (leb 1 n) (leb n 70) (lt-leb 1 n (ltb-true n 1 t)))
      by (inr t) = pick_no _ _ _ (and-right-fails (leb 1 n) (leb n 70) (lt-leb n 70 (ltb-true 70 n t)))

  pub raw-few : (ltb n 1 || ltb 70 n) ≡ false → (1 ≤ n) × (n ≤ 70)
  raw-few e = let f = or-fails (ltb n 1) (ltb 70 n) e in (ltb-false n 1 f.0, ltb-false 70 n f.1)

  pub raw-good : (ltb n 1 || ltb 70 n) ≡ false → ◌≡◌ {A = ℕ} (pick (leb 1 n && leb n 70) 0 32) 0
  raw-good e = let f = raw-few e in pick_yes _ _ _ (and-join (le-leb 1 n f.0) (le-leb n 70 f.1))

-- ---- the bytes that a line means

module _ (m : Meant) (r : Wrote) (n : ℕ) (room : List ℕ) where
  pub held-written : Held m r room → r ≡ Written n → (m ≡ means (take n room)) × (n ≤ 70)
  unfolding Held
  held-written = by m
    where
      by : (m : Meant) → Held m r room → r ≡ Written n → (m ≡ means (take n room)) × (n ≤ 70)
      by (means x) h e = let k : n ≡ length x = cc in (ap means (sym h.2 ∙ ap (λ (j : ℕ). take j room) (sym k)), omega (arith, h.1))
      by (faulty k) h e = absurd (let z : ◌≡◌ {A = ℕ} 0 1 = cc in omega arith)

  pub held-refused : Held m r room → r ≡ Refused n → m ≡ faulty n
  unfolding Held
  held-refused = by m
    where
      by : (m : Meant) → Held m r room → r ≡ Refused n → m ≡ faulty n
      by (means x) h e = absurd (let k = h.0 in let z : ◌≡◌ {A = ℕ} 0 1 = cc in omega arith)
      by (faulty k) h e = cc

pub line-put : (m : Meant) (x room room' : List ℕ) (r : Wrote) → m ≡ means x → (r ≡ put_answer 0 x room) × (room' ≡ put_room 0 x room) → (r ≡ meant_answer m room) × (room' ≡ meant_room m room)
unfolding meant_answer meant_room
line-put m x room room' r e h = rw e h

pub line_refused : {m : Meant} {n : ℕ} (room : List ℕ) → m ≡ faulty n → (Refused n ≡ meant_answer m room) × (room ≡ meant_room m room)
unfolding meant_answer meant_room
line_refused room e = rw e (refl, refl)

-- ---- each thing that a line may say

hex-most : (k : ℕ) (l : List ℕ) (at : ℕ) → length (hex_from k l at).bytes ≤ k
unfolding hex_from pick
hex-most zero l at = omega arith
hex-most (suc k) [] at = omega arith
hex-most (suc k) (a ∷ []) at = omega arith
hex-most (suc k) (a ∷ b ∷ l) at = by (blank a) (ltb (hex_value a) 16 && ltb (hex_value b) 16) (hex-most (suc k) (b ∷ l) (suc at)) (hex-most k l (suc (suc at)))
  where
    by : (t u : Bool) → length (hex_from (suc k) (b ∷ l) (suc at)).bytes ≤ suc k → length (hex_from k l (suc (suc at))).bytes ≤ k
        → length (pick t (hex_from (suc k) (b ∷ l) (suc at)) (pick u (with_byte (16 * hex_value a + hex_value b) (hex_from k l (suc (suc at)))) (stopped at))).bytes ≤ suc k
    by true u h m = h
    by false true h m = omega arith
    by false false h m = omega arith

module _ (line : List ℕ) (from : ℕ) (room : List ℕ) (r : Count) (u : Unhexed (hex_from 70 (drop from line) from) r room) where
  abbrev H : Hexed
  H = hex_from 70 (drop from line) from

  pub raw-none : r.count ≡ 0 → Held (raw_meant line H) (Refused 32) room
  unfolding raw_meant Held
  raw-none z = rw (pick_yes (eqb (length H.bytes) 0) (faulty 32) (pick (ends_at line H.next) (means H.bytes) (faulty 30)) (eq-eqb _ 0 (sym u.count ∙ z))) refl

  module _ (some : r.count ≡ 0 → ⊥) (t : Bool) (e : t ≡ ends_at line r.next) where
    rest : raw_meant line H ≡ pick t (means H.bytes) (faulty 30)
    unfolding raw_meant
    rest = pick_no _ _ _ (ne_eqb _ 0 (λ z. some (u.count ∙ z))) ∙ ap (λ (v : Bool). pick v (means H.bytes) (faulty 30)) (ap (ends_at line) (sym u.next) ∙ sym e)

    pub raw-more : t ≡ false → Held (raw_meant line H) (Refused 30) room
    unfolding Held
    raw-more f = rw (rest ∙ pick_no _ _ _ f) refl

    pub raw-says : t ≡ true → Held (raw_meant line H) (Written r.count) room
    unfolding Held
    raw-says f = rw (rest ∙ pick_yes _ _ _ f) (ap Written u.count, hex-most 70 (drop from line) from, ap (λ (k : ℕ). take k room) (sym u.count) ∙ u.held)

module _ (line : List ℕ) (running : ℕ) (l : Line) (e : l ≡ line_says running line) where
  pub nothing-held : (room : List ℕ) → l ≡ Nothing → Held (meant running line) (Written 0) room
  unfolding meant meant_by Held
  nothing-held room d = rw (sym e ∙ d) (refl, omega arith, refl)

  pub bad-held : (room : List ℕ) (n : ℕ) → l ≡ Bad n → Held (meant running line) (Refused n) room
  unfolding meant meant_by Held
  bad-held room n d = rw (sym e ∙ d) refl

  pub raw-held : (room : List ℕ) (from : ℕ) (r : Wrote) → l ≡ Raw from → Held (raw_meant line (hex_from 70 (drop from line) from)) r room → Held (meant running line) r room
  unfolding meant meant_by
  raw-held room from r d h = rw (sym e ∙ d) h

  pub says-held : (room room' : List ℕ) (q : Record) (r : Wrote) → l ≡ Says q → 70 ≤ length room → r ≡ wrote_of q room → room' ≡ room_after q room → Held (meant running line) r room'
  unfolding meant meant_by Held
  says-held room room' q r d h a b =
      let f = line-good running line q (sym e ∙ d) in
      let x = written_of q in
      let n : length x ≤ 70 = omega (arith, length-written q f, size-most q.named (omega (arith, suits-lt q.code q.named (no-fault-good q f).suit))) in
      let w = write_done q room f (length x) (sets room 0 x) refl (omega arith) refl in
      let after : room' ≡ take 0 room ++ x ++ drop (0 + length x) room = b ∙ sym w.1 ∙ sets-eq x room 0 (omega arith) in
      rw (sym e ∙ d) (a ∙ sym w.0, n, ap (take (length x)) after ∙ take-append_seam x (drop (0 + length x) room))
