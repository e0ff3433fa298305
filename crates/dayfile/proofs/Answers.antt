-- The writer's refusal, its answer and the room after it, by what it tests.
use mathlib.Core.Bool.{not}
use mathlib.Core.Path.{◌≡◌, refl, sym, ap, ◌∙◌}
use mathlib.Core.List.{List, [], ◌++◌}
use Prim.Native.Nat.{ℕ, zero, suc, ◌≤◌, ◌<◌}
use native.Mathlib.Nat.{zero-add}
use lib.ListN.{length, drop}
use lib.Seq.{sets, sets-eq}
use borrow.Author.Tests.{le-leb, lt-leb}
use Rattle.sums.specs.Choice.{unless_refused}
use Rattle.sums.proofs.Choices.{refused-by}
use Rattle.sums.proofs.Tables.{first-here, first-later, first_some, first-clear, none-gives-0}
use Rattle.dayfile.specs.declared.Record.{Record}
use Rattle.dayfile.specs.declared.Wrote.TheVariants.{Written, Refused}
use Rattle.dayfile.specs.Records.{faults, fault_of}
use Rattle.dayfile.specs.Written.{written_of, writer_refusal, wrote_of, room_after, refusal_wrote}
use Rattle.dayfile.proofs.Apart.{zero-is-not-one}
use Rattle.dayfile.proofs.Good.{past-faults}

module _ (r : Record) (room : List ℕ) where
  -- the writer's table: a record's faults, and then the room
  fault-first : (fault_of r ≡ 0 → ⊥) → writer_refusal r room ≡ fault_of r
  unfolding writer_refusal fault_of
  fault-first h = first_some (faults r) _ h

  short-last : fault_of r ≡ 0 → length room < length (written_of r) → writer_refusal r room ≡ 15
  unfolding writer_refusal
  short-last f h = past-faults r _ f ∙ first-here 15 _ _ (ap not (lt-leb _ _ h))

  none-refused : fault_of r ≡ 0 → length (written_of r) ≤ length room → writer_refusal r room ≡ 0
  unfolding writer_refusal
  none-refused f h = past-faults r _ f ∙ first-later 15 _ _ (ap not (le-leb _ _ h)) ∙ none-gives-0 [] tt

  -- what isn't refused has no fault
  pub refused-not : writer_refusal r room ≡ 0 → fault_of r ≡ 0
  unfolding writer_refusal fault_of
  refused-not e = first-clear (faults r) _ e

  pub write-refused : (f : ℕ) → f ≡ fault_of r → (f ≡ 0 → ⊥) → (Refused f ≡ wrote_of r room) × (room ≡ room_after r room)
  unfolding wrote_of room_after
  write-refused f e h =
      let k : writer_refusal r room ≡ f = fault-first (λ z. h (e ∙ z)) ∙ sym e in
      (rw k (refused-by f _ Refused h), rw k (refused-by f _ (λ n. room) h))

  module _ (sound : fault_of r ≡ 0) where
    pub write-short : length room < length (written_of r) → (Refused 15 ≡ wrote_of r room) × (room ≡ room_after r room)
    unfolding wrote_of room_after
    write-short h = (rw (short-last sound h) refl, rw (short-last sound h) refl)

    pub write_done : (n : ℕ) (after : List ℕ) → n ≡ length (written_of r) → length (written_of r) ≤ length room
        → after ≡ sets room 0 (written_of r) → (Written n ≡ wrote_of r room) × (after ≡ room_after r room)
    unfolding wrote_of room_after
    write_done n after e h p =
        let q : sets room 0 (written_of r) ≡ written_of r ++ drop (length (written_of r)) room =
        rw (sets-eq (written_of r) room 0 (rw zero-add h), zero-add) in
        (rw (none-refused sound h) (ap Written e), rw (none-refused sound h) (p ∙ q))

  -- the number of the writer's answer is its refusal
  pub wrote-refusal : refusal_wrote (wrote_of r room) ≡ writer_refusal r room
  unfolding wrote_of
  wrote-refusal = by (writer_refusal r room)
    where
      by : (k : ℕ) → refusal_wrote (unless_refused k (Written (length (written_of r))) Refused) ≡ k
      by zero = refl
      by (suc k) = refl

  -- a writer that refuses leaves its room untouched
  pub refused-writer-leaves-room : (n : ℕ) → wrote_of r room ≡ Refused n → room_after r room ≡ room
  unfolding wrote_of room_after
  refused-writer-leaves-room n e = by (writer_refusal r room) e
    where
      by : (k : ℕ) → unless_refused k (Written (length (written_of r))) Refused ≡ Refused n
          → unless_refused k (written_of r ++ drop (length (written_of r)) room) (λ m. room) ≡ room
      by zero q = zero-is-not-one (cc)
      by (suc k) q = refl

  -- what was written was not refused
  pub wrote-all : (n : ℕ) → Written n ≡ wrote_of r room → (writer_refusal r room ≡ 0) × (n ≡ length (written_of r))
  unfolding wrote_of
  wrote-all n e = by (writer_refusal r room) e
    where
      by : (k : ℕ) → Written n ≡ unless_refused k (Written (length (written_of r))) Refused → (k ≡ 0) × (n ≡ length (written_of r))
      by zero q = (refl, cc)
      by (suc k) q = zero-is-not-one (cc)
