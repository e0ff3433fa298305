-- The round trip: what was written reads back, and what reads as a good record is what would be written.
use mathlib.Core.List.{List, [], ◌∷◌, ◌++◌, append_assoc}
use mathlib.Core.Path.{◌≡◌, refl, sym, ap, ◌∙◌}
use Prim.Native.Nat.{ℕ, zero, suc, ◌+◌, ◌-◌, ◌*◌, ◌≤◌, ◌<◌}
use native.Mathlib.Omega.{arith}
use lib.Count.{ones}
use lib.Dec.{leb}
use lib.ListN.{length, drop, take, length-append, drop_of_length-le, take-append-drop}
use lib.Seq.{drop-append_seam, take-append_seam, drop-drop}
use borrow.Author.Tests.{le-leb}
use Rattle.sums.specs.Choice.{unless_refused}
use Rattle.sums.proofs.Choices.{pick_yes}
use Rattle.numbers.specs.Bytes.{Bytes}
use Rattle.numbers.proofs.Numbers.{bytes_drop}
use Rattle.dayfile.specs.declared.Record.{Record}
use Rattle.dayfile.specs.declared.Found.{Found}
use Rattle.dayfile.specs.declared.Found.TheVariants.{End as NoBytes, Cut as TooFew, Whole}
use Rattle.dayfile.specs.declared.Read.TheVariants.{End, Good, Bad}
use Rattle.dayfile.specs.declared.Wrote.TheVariants.{Written}
use Rattle.dayfile.specs.Files.{WordsFit, AllGood, none, also, Reads, done, more, file_of}
use Rattle.dayfile.specs.Records.{fault_of}
use Rattle.dayfile.specs.Written.{body_of, written_of, wrote_of, room_after}
use Rattle.dayfile.specs.Reading.{size_of, found_from, found_at, judged, read_of, read_at}
use Rattle.dayfile.proofs.Apart.{zero-is-not-one}
use Rattle.dayfile.proofs.Good.{no-fault-good, suits-lt}
use Rattle.dayfile.proofs.Lengths.{length-body, length-written}
use Rattle.dayfile.proofs.Answers.{refused-not, wrote-all}
use Rattle.dayfile.proofs.Bodies.{record-body, written-record}
use Rattle.dayfile.proofs.Places.{Stands, whole-stands, named-from, next-is, next-within, at-end, end-at}

-- ---- reading what was written

module _ (r : Record) (f : fault_of r ≡ 0) (w : WordsFit r) where
  found-written : (before after : List ℕ)
      → found_at (before ++ (written_of r ++ after)) (length before) ≡ Whole r (length before + length (written_of r))
  unfolding found_at written_of found_from
  found-written before after =
      let s = no-fault-good r f in
      let n = length-body r (suits-lt r.code r.named s.suit) in
      let fits = le-leb (size_of r.named) (2 + length (body_of r ++ after)) (simp (length-append, n) (omega arith)) in
      rw (drop-append_seam, record-body r s w after)
      (pick_yes (leb (size_of r.named) (2 + length (body_of r ++ after))) _ _ fits ∙ ap (Whole r) (omega (arith, n)))

  -- what was written reads back, at any place and whatever follows
  pub read-written : (before after : List ℕ)
      → read_at (before ++ (written_of r ++ after)) (length before) ≡ Good r (length before + length (written_of r))
  unfolding read_at read_of judged
  read-written before after = rw (found-written before after, f)

-- ---- a whole day file

pub end_read : (s : List ℕ) (at : ℕ) → length s ≤ at → read_at s at ≡ End
unfolding read_at read_of
end_read s at h = rw (at-end s at h)

-- a day file of good records reads as just these records
file-from : (rs : List Record) → AllGood rs → (before : List ℕ) → Reads (before ++ file_of rs) (length before) rs
unfolding file_of
file-from [] none before = done (end_read (before ++ []) (length before) (simp length-append (omega arith)))
file-from (r ∷ rs) (also f w g) before =
    let rest : Reads (before ++ (written_of r ++ file_of rs)) (length before + length (written_of r)) rs =
    rw (← append_assoc, ← length-append) (file-from rs g (before ++ written_of r)) in
    more (read-written r f w before (file_of rs)) rest

pub file-reads : (rs : List Record) → AllGood rs → Reads (file_of rs) 0 rs
file-reads rs g = file-from rs g []

-- a piece reads as one list of records only
pub reads-once : {s : List ℕ} {at : ℕ} {rs rs' : List Record} → Reads s at rs → Reads s at rs' → rs ≡ rs'
reads-once (done e) (done e') = refl
reads-once (done e) (more e' p') = zero-is-not-one (cc)
reads-once (more e p) (done e') = zero-is-not-one (cc)
reads-once {s} (more {next} {r} {rs} e p) (more {next = next'} {r = r'} {rs = rs'} e' p') =
    let er : r ≡ r' = cc in
    let en : next' ≡ next = cc in
    let q : Reads s next rs' = rw en at p' in
    rw (er, reads-once p q)

-- two good records with one written form are the same record
pub written_once : (r r' : Record) → fault_of r ≡ 0 → WordsFit r → fault_of r' ≡ 0 → WordsFit r' → written_of r ≡ written_of r' → r ≡ r'
written_once r r' f w f' w' e =
    let a = read-written r f w [] [] in
    let b : read_at (written_of r ++ []) 0 ≡ Good r' (0 + length (written_of r')) = rw e (read-written r' f' w' [] []) in
    cc

-- ---- what reads as a good record was written so

judged-good : (x : Record) (k : ℕ) (r : Record) (n : ℕ) → judged x k ≡ Good r n → (fault_of x ≡ 0) × (x ≡ r) × (k ≡ n)
unfolding judged
judged-good x k r n e = by (fault_of x) e
  where
    by : (f : ℕ) → unless_refused f (Good x k) (λ m. Bad m x.serial x.code x.account k) ≡ Good r n → (f ≡ 0) × (x ≡ r) × (k ≡ n)
    by zero h = (refl, cc, cc)
    by (suc f) h = zero-is-not-one (cc)

good-found : (x : Found) (r : Record) (n : ℕ) → read_of x ≡ Good r n → (x ≡ Whole r n) × (fault_of r ≡ 0)
unfolding read_of
good-found NoBytes r n e = zero-is-not-one (cc)
good-found TooFew r n e = zero-is-not-one (cc)
good-found (Whole x k) r n e =
    let j = judged-good x k r n e in
    (rw (j.1, j.2), rw j.1 at j.0)

-- a good record that was read stood there whole and has no fault
pub read_found : (s : List ℕ) (at : ℕ) {r : Record} {next : ℕ} → read_at s at ≡ Good r next → (found_at s at ≡ Whole r next) × (fault_of r ≡ 0)
unfolding read_at
read_found s at {r} {next} e = good-found (found_at s at) r next e

stands-written : (l : List ℕ) (at : ℕ) {r : Record} {next : ℕ} → Bytes l → fault_of r ≡ 0 → (w : Stands l at r next)
    → l ≡ written_of r ++ drop (4 + 8 * ones w.named) w.rest
stands-written l at {r} y f w =
    let h : Bytes (w.code ∷ w.named ∷ w.rest) = rw w.bytes at y in
    let k : w.named < 64 = rw (named-from l at w) at (suits-lt r.code r.named (no-fault-good r f).suit) in
    w.bytes
    ∙ sym (written-record w.code w.named w.rest (λ i. h (suc (suc i))) k (omega (arith, w.whole)))
    ∙ ap (λ (x : Record). written_of x ++ drop (4 + 8 * ones w.named) w.rest) (sym w.is)

module _ (s : List ℕ) (at : ℕ) {r : Record} {next : ℕ} (read : read_at s at ≡ Good r next) where
  -- the place after a good record: the record's length past its own
  read_next : next ≡ at + length (written_of r)
  read_next = rw (length-written r (read_found s at read).1) (next-is s at (read_found s at read).0)

  -- whatever bytes read as a good record were just that record's written form
  pub written_read : Bytes s → take (next - at) (drop at s) ≡ written_of r
  written_read y =
      let found = read_found s at read in
      let n : next - at ≡ length (written_of r) = omega (arith, read_next) in
      rw (n, stands-written (drop at s) at (bytes_drop at s y) found.1 (whole-stands s at found.0)) (take-append_seam (written_of r) _)

-- ---- a whole day file, read and written back

end-found : (x : Found) → read_of x ≡ End → x ≡ NoBytes
unfolding read_of judged
end-found NoBytes e = refl
end-found TooFew e = zero-is-not-one (cc)
end-found (Whole r next) e = by (fault_of r) e
  where
    by : (f : ℕ) → unless_refused f (Good r next) (λ m. Bad m r.serial r.code r.account next) ≡ End → Whole r next ≡ NoBytes
    by zero h = zero-is-not-one (cc)
    by (suc f) h = zero-is-not-one (cc)

-- the end is read exactly where the piece has no byte at the place
read-end-at : (s : List ℕ) (at : ℕ) → read_at s at ≡ End → length s ≤ at
unfolding read_at
read-end-at s at e = end-at s at (end-found (found_at s at) e)

file-at : {s : List ℕ} {at : ℕ} {rs : List Record} → Bytes s → at ≤ length s → Reads s at rs → drop at s ≡ file_of rs
unfolding file_of
file-at {s} {at} y h (done e) = drop_of_length-le s (read-end-at s at e)
file-at {s} {at} y h (more {next} {r} {rs} e p) =
    let n = read_next s at e in
    let k : at + (next - at) ≡ next = omega arith in
    sym (take-append-drop (next - at) (drop at s))
    ∙ rw (written_read s at e y, drop-drop, k) (ap (λ (t : List ℕ). written_of r ++ t) (file-at y (next-within s at (read_found s at e).0) p))

-- a piece that reads as good records up to its end is their day file
pub read-file : {s : List ℕ} {rs : List Record} → Bytes s → Reads s 0 rs → s ≡ file_of rs
read-file y p = file-at y (omega arith) p

-- ---- the writer's room

-- what a call of the writer wrote reads back from the room's start
pub room-reads : (r : Record) (room : List ℕ) (n : ℕ) → WordsFit r → wrote_of r room ≡ Written n → read_at (room_after r room) 0 ≡ Good r n
unfolding room_after
room-reads r room n w d =
    let e = wrote-all r room n (sym d) in
    rw (e.0, e.1) (read-written r (refused-not r room e.0) w [] (drop (length (written_of r)) room) ∙ ap (Good r) (omega arith))
