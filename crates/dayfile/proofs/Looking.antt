-- What `found_at` and `read_at` give, by what a reader tests.
use mathlib.Core.Path.{◌≡◌, refl}
use mathlib.Core.List.{List}
use Prim.Native.Nat.{ℕ, suc, ◌+◌, ◌-◌, ◌*◌, ◌≤◌, ◌<◌}
use native.Mathlib.Omega.{arith}
use lib.ListN.{length, drop, get_or, length-drop, drop_of_length-le}
use lib.Seq.{drop-cons, drop-drop}
use borrow.Author.Tests.{le-leb, lt-leb}
use Rattle.sums.proofs.Choices.{pick_first, pick_second, refused-by}
use Rattle.numbers.specs.Bytes.{number}
use Rattle.numbers.proofs.Numbers.{two_at}
use Rattle.dayfile.specs.declared.Record.{Record}
use Rattle.dayfile.specs.declared.Found.TheVariants.{End as NoBytes, Cut as TooFew, Whole}
use Rattle.dayfile.specs.declared.Read.TheVariants.{End, Cut, Good, Bad}
use Rattle.dayfile.specs.Records.{bit, fault_of}
use Rattle.dayfile.specs.Reading.{size_of, got, record_of, found_from, found_at, judged, read_of, read_at}
use Rattle.dayfile.proofs.Amounts.{past-bit}

pub found-end : (s : List ℕ) (at : ℕ) → length s ≤ at → NoBytes ≡ found_at s at
unfolding found_at found_from
found-end s at h = rw (drop_of_length-le s h)

pub found-one : (s : List ℕ) (at : ℕ) → at < length s → length s - at < 2 → TooFew ≡ found_at s at
unfolding found_at found_from
found-one s at h k =
    let n : length s ≤ suc at = omega arith in
    rw (drop-cons s at 0 h, drop_of_length-le s n)

module _ (s : List ℕ) (at : ℕ) (h : at + 2 ≤ length s) where
  pub found-short : (n : ℕ) → n ≡ size_of (get_or s (at + 1) 0) → length s - at < n → TooFew ≡ found_at s at
  unfolding found_at found_from
  found-short n e k =
      rw (two_at s at h)
      (pick_second _ (lt-leb (size_of (get_or s (at + 1) 0)) (2 + length (drop (at + 2) s)) (rw length-drop (omega arith))) refl)

  pub found-whole : (n : ℕ) → n ≡ size_of (get_or s (at + 1) 0) → n ≤ length s - at
      → (r : Record) → r ≡ record_of (get_or s at 0) (get_or s (at + 1) 0) (drop (at + 2) s) → Whole r (at + n) ≡ found_at s at
  unfolding found_at found_from
  found-whole n e k r er =
      rw (two_at s at h, er, e)
      (pick_first _ (le-leb (size_of (get_or s (at + 1) 0)) (2 + length (drop (at + 2) s)) (rw length-drop (omega arith))) refl)

module _ (s : List ℕ) (at : ℕ) where
  pub read-end : found_at s at ≡ NoBytes → End ≡ read_at s at
  unfolding read_at read_of
  read-end e = rw e

  pub read-cut : found_at s at ≡ TooFew → Cut ≡ read_at s at
  unfolding read_at read_of
  read-cut e = rw e

  module _ (r : Record) (next : ℕ) (e : found_at s at ≡ Whole r next) (f : ℕ) (w : f ≡ fault_of r) where
    pub read-good : f ≡ 0 → Good r next ≡ read_at s at
    unfolding read_at read_of judged
    read-good h = rw (e, ← w, h)

    pub read-bad : (f ≡ 0 → ⊥) → Bad f r.serial r.code r.account next ≡ read_at s at
    unfolding read_at read_of judged
    read-bad h = rw (e, ← w) (refused-by f _ (λ n. Bad n r.serial r.code r.account next) h)

-- the record whose bytes after the mark stand at a place, with the place of each of its parts
pub record-at : (code named : ℕ) (s : List ℕ) (at : ℕ) → ◌≡◌ {A = Record} (record {
  serial = number 2 (drop at s);
  code = code;
  named = named;
  account = number 2 (drop (at + 2) s);
  kinds = record {
    cash = got (bit 0 named) (drop (at + 2 + 2) s);
    deposits = got (bit 1 named) (drop (at + 2 + 2 + 8 * bit 0 named) s);
    guarantees = got (bit 2 named) (drop (at + 2 + 2 + 8 * bit 0 named + 8 * bit 1 named) s);
    securities = got (bit 3 named) (drop (at + 2 + 2 + 8 * bit 0 named + 8 * bit 1 named + 8 * bit 2 named) s);
  };
  pledged = got (bit 4 named) (drop (at + 2 + 2 + 8 * bit 0 named + 8 * bit 1 named + 8 * bit 2 named + 8 * bit 3 named) s);
  margin = got (bit 5 named) (drop (at + 2 + 2 + 8 * bit 0 named + 8 * bit 1 named + 8 * bit 2 named + 8 * bit 3 named + 8 * bit 4 named) s);
})
    (record_of code named (drop at s))
unfolding record_of
record-at code named s at = simp (past-bit, drop-drop)
