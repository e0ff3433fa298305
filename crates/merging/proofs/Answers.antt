-- What a merging answers, case by case, and what its room then holds.
use Rattle.std.proofs.Common.{◌≡◌, Option, None, Some, ℕ, zero, suc, ◌+◌, ◌<◌, ◌≤◌, Bool, true, false, leb, List, ◌++◌, length, take, drop, sym, refl, ap, ◌∙◌, arith, length-append, take_at, drop_at, le-leb, leb-true}
use borrow.Author.Tests.{lt-leb}
use Rattle.sums.specs.Choice.{pick, unless_refused}
use Rattle.sums.specs.Room.{at_start}
use Rattle.sums.proofs.Choices.{pick_yes, pick_no, refused-by}
use Rattle.numbers.specs.Bytes.{Bytes}
use Rattle.dayfile.specs.Files.{file_of}
use Rattle.merging.specs.declared.Merged.{Merged}
use Rattle.merging.specs.declared.Fault.{Fault}
use Rattle.merging.specs.Merging.{listed_in, renumbered, merged_file, not_merged, fault_in, written, merged_of, room_merged}
use Rattle.merging.specs.Inner.{Looked, looked, stopped, renumbered_in}
use Rattle.merging.proofs.Joined.{both-file, joined}
use Rattle.merging.proofs.Renumbering.{length-renumbered}

-- a look that finds no fault
pub no-fault : {x : Looked} (s : List ℕ) → x ≡ looked 0 (listed_in s) → x.refusal ≡ 0 → (listed_in s).refusal ≡ 0
no-fault s e z = sym (ap (λ (q : Looked). q.refusal) e) ∙ z

-- one that finds a fault
pub fault-found : {x : Looked} (s : List ℕ) (file : ℕ) → x ≡ looked 0 (listed_in s) → not_merged x.refusal file x.records ≡ fault_in file (listed_in s)
fault-found s file e = ap (λ (q : Looked). not_merged q.refusal file q.records) e ∙ ap (not_merged _ file) (omega arith)

-- so where it is said to stop nowhere
pub stops-nowhere : (s : List ℕ) → None ≡ stopped (looked 0 (listed_in s)) → (listed_in s).refusal ≡ 0
stops-nowhere s e = by (listed_in s).refusal e
  where
    by : (n : ℕ) → ◌≡◌ {A = Option Fault} None (unless_refused n None (λ m. Some (record { index = 0 + length (listed_in s).records; refusal = m }))) → n ≡ 0
    by zero q = refl
    by (suc n) q = absurd (cc)

-- and at a record
pub stops-at : {x : Fault} (s : List ℕ) (file : ℕ) → Some x ≡ stopped (looked 0 (listed_in s)) → ((listed_in s).refusal ≡ 0 → ⊥) × (not_merged x.refusal file x.index ≡ fault_in file (listed_in s))
stops-at {x} s file e = by (listed_in s).refusal refl e
  where
    by : (n : ℕ) → (listed_in s).refusal ≡ n → ◌≡◌ {A = Option Fault} (Some x) (unless_refused n None (λ m. Some (record { index = 0 + length (listed_in s).records; refusal = m })))
        → ((listed_in s).refusal ≡ 0 → ⊥) × (not_merged x.refusal file x.index ≡ fault_in file (listed_in s))
    by zero r q = absurd (cc)
    by (suc n) r q =
        let f : x ≡ record { index = 0 + length (listed_in s).records; refusal = suc n } = cc in
        let g : x ≡ record { index = 0 + length (listed_in s).records; refusal = (listed_in s).refusal } = f ∙ ap (λ (k : ℕ). record { index = 0 + length (listed_in s).records; refusal = k }) (sym r) in
        (λ z. omega arith, ap (λ (y : Fault). not_merged y.refusal file y.index) g ∙ fault-found s file refl)

-- a merging's answer, and the room behind it
pub record Answers (a b : List ℕ) (next : ℕ) (room : List ℕ) (m : Merged) (after : List ℕ) : Type 0 where
  pub answer : m ≡ merged_of a b next room
  pub held : after ≡ room_merged a b next room

module _ (a b : List ℕ) (next : ℕ) (room : List ℕ) where
  -- refused: the room stays
  by-refusal : (m : Merged) → (m.refusal ≡ 0 → ⊥) → m ≡ merged_of a b next room → Answers a b next room m room
  unfolding room_merged
  by-refusal m bad e = record {
    answer = e;
    held = refused-by (merged_of a b next room).refusal (at_start (merged_file a b next) room) (λ n. room) (λ z. bad (ap (λ (x : Merged). x.refusal) e ∙ z));
  }

  pub at_a : ((listed_in a).refusal ≡ 0 → ⊥) → Answers a b next room (fault_in 1 (listed_in a)) room
  unfolding merged_of
  at_a bad = by-refusal (fault_in 1 (listed_in a)) bad (refused-by (listed_in a).refusal _ (λ n. fault_in 1 (listed_in a)) bad)

  module _ (za : (listed_in a).refusal ≡ 0) where
    past-a : merged_of a b next room ≡ unless_refused (listed_in b).refusal (pick (leb (length (merged_file a b next)) (length room)) (written (length (merged_file a b next))) (not_merged 15 0 0)) (λ n. fault_in 2 (listed_in b))
    unfolding merged_of
    past-a = rw za

    pub at_b : ((listed_in b).refusal ≡ 0 → ⊥) → Answers a b next room (fault_in 2 (listed_in b)) room
    at_b bad = by-refusal (fault_in 2 (listed_in b)) bad (refused-by (listed_in b).refusal _ (λ n. fault_in 2 (listed_in b)) bad ∙ sym past-a)

    module _ (zb : (listed_in b).refusal ≡ 0) (ya : Bytes a) (yb : Bytes b) where
      past-b : merged_of a b next room ≡ pick (leb (length (merged_file a b next)) (length room)) (written (length (merged_file a b next))) (not_merged 15 0 0)
      past-b = past-a ∙ rw zb

      as_long : length (merged_file a b next) ≡ length a + length b
      unfolding merged_file
      as_long = length-renumbered next _ ∙ sym (ap length (both-file a b ya yb za zb)) ∙ length-append a b

      pub too_short : length room < length a + length b → Answers a b next room (not_merged 15 0 0) room
      too_short l =
          by-refusal (not_merged 15 0 0) (λ z. omega arith)
          (sym (past-b ∙ pick_no (leb (length (merged_file a b next)) (length room)) (written (length (merged_file a b next))) (not_merged 15 0 0) (lt-leb (length (merged_file a b next)) (length room) (omega (arith, as_long)))))

      -- both files stand in the room, one behind the other
      module _ (n : ℕ) (both : List ℕ) (long : n ≡ length (a ++ b)) (stand : both ≡ at_start (a ++ b) room) where
        in-front : take n both ≡ a ++ b
        in-front = ap (take n) stand ∙ take_at (a ++ b) _ n (sym long)

        pub ready : (listed_in (take n both)).refusal ≡ 0
        ready = rw in-front (rw (joined a b ya yb za zb) refl)

        numbered-anew : renumbered_in both n next ≡ at_start (merged_file a b next) room
        unfolding merged_file
        numbered-anew =
            ap (λ (l : List ℕ). file_of (renumbered next (listed_in l).records) ++ drop n both) in-front
            ∙ rw (joined a b ya yb za zb) refl
            ∙ ap (λ (l : List ℕ). merged_file a b next ++ l) rest
          where
            rest : drop n both ≡ drop (length (merged_file a b next)) room
            rest = ap (drop n) stand ∙ drop_at (a ++ b) _ n (sym long) ∙ ap (λ (k : ℕ). drop k room) (sym (as_long ∙ sym (length-append a b)))

        pub both-written : n ≤ length room → (after : List ℕ) → after ≡ renumbered_in both n next → Answers a b next room (written n) after
        unfolding room_merged
        both-written l after e = record { answer = sym answered; held = e ∙ numbered-anew ∙ rw (answered) refl }
          where
            answered : merged_of a b next room ≡ written n
            answered =
                past-b
                ∙ pick_yes (leb (length (merged_file a b next)) (length room)) (written (length (merged_file a b next))) (not_merged 15 0 0) (le-leb (length (merged_file a b next)) (length room) (omega (arith, as_long, length-append a b)))
                ∙ ap written (as_long ∙ sym (length-append a b) ∙ sym long)

-- never more bytes are written than the room has
pub within-room : (a b : List ℕ) (next : ℕ) (room : List ℕ) → (merged_of a b next room).length ≤ length room
unfolding merged_of pick
within-room a b next room = by (listed_in a).refusal (listed_in b).refusal (leb n (length room)) refl
  where
    n : ℕ
    n = length (merged_file a b next)

    by : (x y : ℕ) (t : Bool) → leb n (length room) ≡ t
        → (unless_refused x (unless_refused y (pick t (written n) (not_merged 15 0 0)) (λ k. fault_in 2 (listed_in b))) (λ k. fault_in 1 (listed_in a))).length ≤ length room
    by (suc x) y t e = omega arith
    by zero (suc y) t e = omega arith
    by zero zero true e = leb-true _ _ e
    by zero zero false e = omega arith
