-- New serials put into a file that stands in a room.
use Rattle.std.proofs.Common.{◌≡◌, ℕ, ◌+◌, ◌<◌, ◌≤◌, List, [], ◌∷◌, ◌++◌, length, get_or, drop, sym, refl, ap, ◌∙◌, append_assoc, append-nil, arith, length-append, drop-drop, take_at}
use lib.Seq.{sets, sets-eq, drop-append_seam}
use Rattle.numbers.specs.Bytes.{bytes_of}
use Rattle.numbers.proofs.Numbers.{length-bytes_of, two_at}
use Rattle.dayfile.specs.declared.Record.{Record}
use Rattle.dayfile.specs.Files.{AllGood, also, file_of}
use Rattle.dayfile.specs.Reading.{size_of}
use Rattle.dayfile.specs.Written.{body_of, written_of}
use Rattle.dayfile.proofs.Lengths.{length-written}
use Rattle.rules.specs.Effects.{next_serial}
use Rattle.merging.specs.Merging.{numbered, renumbered}
use Rattle.merging.proofs.Joined.{file-both}

-- ---- one record

pub length-numbered : (serial : ℕ) (r : Record) → length (written_of (numbered serial r)) ≡ length (written_of r)
unfolding written_of body_of
length-numbered serial r = simp (length-append, length-bytes_of)

pub length-renumbered : (serial : ℕ) (rs : List Record) → length (file_of (renumbered serial rs)) ≡ length (file_of rs)
unfolding file_of renumbered
length-renumbered serial [] = refl
length-renumbered serial (r ∷ rs) = simp length-append (omega (arith, length-numbered serial r, length-renumbered (next_serial serial) rs))

-- bytes put in the place of as many others
put-over : (p old new z : List ℕ) → length old ≡ length new → sets (p ++ (old ++ z)) (length p) new ≡ p ++ (new ++ z)
put-over p old new z e =
    sets-eq new (p ++ (old ++ z)) (length p) (simp length-append (omega (arith, e)))
    ∙ ap (λ (l : List ℕ). (l ++ new) ++ drop (length p + length new) (p ++ (old ++ z))) (take_at p (old ++ z) (length p) refl)
    ∙ ap (λ (l : List ℕ). (p ++ new) ++ l) rest
    ∙ append_assoc p new z
  where
    rest : drop (length p + length new) (p ++ (old ++ z)) ≡ z
    rest = sym (drop-drop (length new) (length p) (p ++ (old ++ z))) ∙ ap (drop (length new)) (drop-append_seam p (old ++ z)) ∙ rw (sym e) (drop-append_seam old z)

-- a record's serial is put behind its mark
pub put-serial : (p : List ℕ) (r : Record) (z : List ℕ) (serial : ℕ)
    → sets (p ++ (written_of r ++ z)) (length p + 2) (bytes_of 2 serial) ≡ p ++ (written_of (numbered serial r) ++ z)
unfolding written_of body_of
put-serial p r z serial = by _
  where
    by : (body : List ℕ) → sets (p ++ (r.code ∷ r.named ∷ ((bytes_of 2 r.serial ++ body) ++ z))) (length p + 2) (bytes_of 2 serial)
        ≡ p ++ (r.code ∷ r.named ∷ ((bytes_of 2 serial ++ body) ++ z))
    by body =
        let q = p ++ (r.code ∷ r.named ∷ []) in
        let n : length q ≡ length p + 2 = length-append p _ in
        let split : (new : List ℕ) → p ++ (r.code ∷ r.named ∷ ((new ++ body) ++ z)) ≡ q ++ (new ++ (body ++ z)) =
        λ new. ap (λ (l : List ℕ). p ++ (r.code ∷ r.named ∷ l)) (append_assoc new body z) ∙ sym (append_assoc p (r.code ∷ r.named ∷ []) (new ++ (body ++ z))) in
        rw (split (bytes_of 2 r.serial), split (bytes_of 2 serial), ← n)
        (put-over q (bytes_of 2 r.serial) (bytes_of 2 serial) (body ++ z) (length-bytes_of 2 _ ∙ sym (length-bytes_of 2 _)))

-- ---- record after record

-- Halfway through a file's records rs: those in front have their new serials, those left don't yet.
pub record Halfway (rs : List Record) (first : ℕ) (tail : List ℕ) (n : ℕ) (room : List ℕ) (serial place : ℕ) : Type 0 where
  pub front : List Record
  pub left : List Record
  pub all : renumbered first rs ≡ front ++ renumbered serial left
  pub held : room ≡ file_of front ++ (file_of left ++ tail)
  pub at : place ≡ length (file_of front)
  pub end : n ≡ place + length (file_of left)
  pub good : AllGood left

pub at_first : {rs : List Record} {first : ℕ} {tail : List ℕ} {n : ℕ} {room : List ℕ} → AllGood rs → room ≡ file_of rs ++ tail → n ≡ length (file_of rs)
    → Halfway rs first tail n room first 0
unfolding file_of
at_first {rs} g h n = record { front = []; left = rs; all = refl; held = h; at = refl; end = omega (arith, n); good = g }

-- the record there, and the room once it has its serial
pub record Turned (rs : List Record) (first : ℕ) (tail : List ℕ) (n : ℕ) (room : List ℕ) (serial place : ℕ) : Type 0 where
  pub within : place + size_of (get_or room (place + 1) 0) ≤ n
  pub on : Halfway rs first tail n (sets room (place + 2) (bytes_of 2 serial)) (next_serial serial) (place + size_of (get_or room (place + 1) 0))

module _ {rs : List Record} {first : ℕ} {tail : List ℕ} {n : ℕ} {room : List ℕ} {serial place : ℕ} where
  pub turned : Halfway rs first tail n room serial place → place < n → Turned rs first tail n room serial place
  unfolding file_of renumbered written_of
  turned h more = by h.left h.all h.held h.end h.good
    where
      before : List ℕ
      before = file_of h.front

      by : (left : List Record) → renumbered first rs ≡ h.front ++ renumbered serial left → room ≡ before ++ (file_of left ++ tail)
          → n ≡ place + length (file_of left) → AllGood left → Turned rs first tail n room serial place
      by [] all held end g = absurd (omega arith)
      by (r ∷ rest) all held end (also f w g) = record {
        within = rw (size) (omega (arith, long));
        on = record {
          front = h.front ++ (numbered serial r ∷ []);
          left = rest;
          all = all ∙ sym (append_assoc h.front (numbered serial r ∷ []) (renumbered (next_serial serial) rest));
          held = put;
          at = rw (size) (omega (arith, h.at, front_long));
          end = rw (size) (omega (arith, long));
          good = g;
        };
      }
        where
          stands : room ≡ before ++ (written_of r ++ (file_of rest ++ tail))
          stands = held ∙ ap (λ (l : List ℕ). before ++ l) (append_assoc (written_of r) (file_of rest) tail)

          six : 6 ≤ length (written_of r)
          six = omega (arith, length-written r f)

          long : n ≡ place + length (written_of r) + length (file_of rest)
          long = omega (arith, end, length-append (written_of r) (file_of rest))

          named : get_or room (place + 1) 0 ≡ r.named
          named =
              let k : length room ≡ length before + (length (written_of r) + length (file_of rest ++ tail)) = ap length stands ∙ length-append before (written_of r ++ (file_of rest ++ tail)) ∙ ap (λ m. length before + m) (length-append (written_of r) (file_of rest ++ tail)) in
              let e : drop place room ≡ r.code ∷ r.named ∷ (body_of r ++ (file_of rest ++ tail)) = rw (h.at, stands) (drop-append_seam before _) in
              let q = sym (two_at room place (omega (arith, h.at, six, k))) ∙ e in
              cc

          size : size_of (get_or room (place + 1) 0) ≡ length (written_of r)
          size = ap size_of named ∙ sym (length-written r f)

          front_long : length (file_of (h.front ++ (numbered serial r ∷ []))) ≡ length before + length (written_of r)
          front_long =
              ap length (file-both h.front (numbered serial r ∷ []) ∙ ap (λ (l : List ℕ). before ++ l) (append-nil (written_of (numbered serial r))))
              ∙ length-append before (written_of (numbered serial r))
              ∙ ap (λ (k : ℕ). length before + k) (length-numbered serial r)

          put : sets room (place + 2) (bytes_of 2 serial) ≡ file_of (h.front ++ (numbered serial r ∷ [])) ++ (file_of rest ++ tail)
          put =
              ap (λ (l : List ℕ). sets l (place + 2) (bytes_of 2 serial)) stands
              ∙ ap (λ (k : ℕ). sets (before ++ (written_of r ++ (file_of rest ++ tail))) (k + 2) (bytes_of 2 serial)) h.at
              ∙ put-serial before r (file_of rest ++ tail) serial
              ∙ sym (ap (λ (l : List ℕ). l ++ (file_of rest ++ tail)) (file-both h.front (numbered serial r ∷ []) ∙ ap (λ (l : List ℕ). before ++ l) (append-nil (written_of (numbered serial r)))) ∙ append_assoc before (written_of (numbered serial r)) (file_of rest ++ tail))

  -- all of them have theirs
  pub at_last : Halfway rs first tail n room serial place → n ≤ place → room ≡ file_of (renumbered first rs) ++ tail
  unfolding file_of renumbered
  at_last h over = by h.left h.all h.held h.end h.good
    where
      by : (left : List Record) → renumbered first rs ≡ h.front ++ renumbered serial left → room ≡ file_of h.front ++ (file_of left ++ tail)
          → n ≡ place + length (file_of left) → AllGood left → room ≡ file_of (renumbered first rs) ++ tail
      by [] all held end g = held ∙ ap (λ (l : List Record). file_of l ++ tail) (sym (all ∙ append-nil h.front))
      by (r ∷ rest) all held end (also f w g) = absurd (omega (arith, end, length-append (written_of r) (file_of rest), length-written r f))
