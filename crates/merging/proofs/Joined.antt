-- Two files behind one another read as the records of both.
use Rattle.std.proofs.Common.{◌≡◌, ℕ, zero, suc, ◌+◌, ◌≤◌, List, [], ◌∷◌, ◌++◌, length, sym, refl, ap, ◌∙◌, append_assoc, arith}
use Rattle.numbers.specs.Bytes.{Bytes}
use Rattle.numbers.proofs.Numbers.{bytes_drop, number-two}
use Rattle.dayfile.specs.declared.Record.{Record}
use Rattle.dayfile.specs.declared.Found.TheVariants.{Whole}
use Rattle.dayfile.specs.declared.Read.{Read}
use Rattle.dayfile.specs.declared.Read.TheVariants.{End, Cut, Good, Bad}
use Rattle.dayfile.specs.Files.{WordsFit, AllGood, none, also, Reads, done, more, file_of}
use Rattle.dayfile.specs.Reading.{record_of, found_at, read_at}
use Rattle.dayfile.specs.Written.{written_of}
use Rattle.dayfile.proofs.RoundTrip.{end_read, read_found, read-file, file-reads}
use Rattle.dayfile.proofs.Places.{whole-stands, next-least}
use Rattle.merging.specs.Merging.{Listed, onward, listed_from, listed_in}
use Rattle.merging.proofs.Listing.{bad-not-0}

-- ---- listed and read

-- a file that is listed to its end reads as its records
pub listed-reads : (s : List ℕ) (most at : ℕ) → length s ≤ at + most → (listed_from s most at).refusal ≡ 0 → Reads s at (listed_from s most at).records
unfolding listed_from
listed-reads s zero at h z = done (end_read s at (omega arith))
listed-reads s (suc most) at h z = by (read_at s at) refl z (λ next p q. listed-reads s most next p q)
  where
    by : (x : Read) → read_at s at ≡ x → (onward (listed_from s most) x).refusal ≡ 0
        → ((next : ℕ) → length s ≤ next + most → (listed_from s most next).refusal ≡ 0 → Reads s next (listed_from s most next).records)
        → Reads s at (onward (listed_from s most) x).records
    by End e q go = done e
    by Cut e q go = absurd (omega arith)
    by (Good r next) e q go =
        let l = next-least s at (read_found s at e).0 in
        more e (go next (omega arith) q)
    by (Bad reason serial code account next) e q go = absurd (bad-not-0 s at e q)

-- and the other way
pub reads-listed : {s : List ℕ} {at : ℕ} {rs : List Record} → Reads s at rs → (most : ℕ) → length s ≤ at + most
    → listed_from s most at ≡ record { records = rs; refusal = 0 }
unfolding listed_from
reads-listed (done e) zero h = refl
reads-listed {s} (done e) (suc most) h = ap (onward (listed_from s most)) e
reads-listed {s} {at} (more e p) zero h = let q : ◌≡◌ {A = Read} End (Good _ _) = sym (end_read s at (omega arith)) ∙ e in absurd (let z : ◌≡◌ {A = ℕ} 0 1 = cc in omega arith)
reads-listed {s} {at} (more {next} {r} e p) (suc most) h =
    let l = next-least s at (read_found s at e).0 in
    ap (onward (listed_from s most)) e ∙ ap (λ (x : Listed). onward (λ k. x) (Good r next)) (reads-listed p most (omega arith))

-- ---- the records of bytes

-- the words of a record that stands in bytes
words-fit : (s : List ℕ) (at : ℕ) {r : Record} {next : ℕ} → Bytes s → found_at s at ≡ Whole r next → WordsFit r
unfolding record_of
words-fit s at {r} y found =
    let w = whole-stands s at found in
    let h : Bytes (w.code ∷ w.named ∷ w.rest) = rw w.bytes at (bytes_drop at s y) in
    let q : WordsFit (record_of w.code w.named w.rest) = record {
      serial = omega (arith, number-two w.rest 0 (omega (arith, w.whole)), h 2, h 3);
      code = h 0;
      named = h 1;
      account = omega (arith, number-two w.rest 2 (omega (arith, w.whole)), h 4, h 5);
    } in
    rw (sym w.is) at q

pub all-good : {s : List ℕ} {at : ℕ} {rs : List Record} → Bytes s → Reads s at rs → AllGood rs
all-good y (done e) = none
all-good {s} {at} y (more e p) =
    let f = read_found s at e in
    also f.1 (words-fit s at y f.0) (all-good y p)

-- ---- two files

good-both : {rs qs : List Record} → AllGood rs → AllGood qs → AllGood (rs ++ qs)
good-both none h = h
good-both (also f w g) h = also f w (good-both g h)

pub file-both : (rs qs : List Record) → file_of (rs ++ qs) ≡ file_of rs ++ file_of qs
unfolding file_of
file-both [] qs = refl
file-both (r ∷ rs) qs = rw (file-both rs qs) (sym (append_assoc (written_of r) (file_of rs) (file_of qs)))

module _ (a b : List ℕ) (ya : Bytes a) (yb : Bytes b) (za : (listed_in a).refusal ≡ 0) (zb : (listed_in b).refusal ≡ 0) where
  in-a : Reads a 0 (listed_in a).records
  in-a = listed-reads a (length a) 0 (omega arith) za

  in_b : Reads b 0 (listed_in b).records
  in_b = listed-reads b (length b) 0 (omega arith) zb

  pub both-file : a ++ b ≡ file_of ((listed_in a).records ++ (listed_in b).records)
  both-file = sym (file-both _ _ ∙ ap (λ l. l ++ file_of (listed_in b).records) (sym (read-file ya in-a)) ∙ ap (λ l. a ++ l) (sym (read-file yb in_b)))

  pub both-good : AllGood ((listed_in a).records ++ (listed_in b).records)
  both-good = good-both (all-good ya in-a) (all-good yb in_b)

  pub joined : listed_in (a ++ b) ≡ record { records = (listed_in a).records ++ (listed_in b).records; refusal = 0 }
  joined = reads-listed (rw (sym both-file) at (file-reads _ both-good)) (length (a ++ b)) (omega arith)
