-- Document 01's number of what stands at a place, of what the reader gives there, and of what the writer answers.
use mathlib.Core.Bool.{Bool, true, false}
use mathlib.Core.List.{List}
use mathlib.Core.Path.{◌≡◌, refl, ap, ◌∙◌}
use Prim.Native.Nat.{ℕ, zero, suc, ◌+◌}
use lib.Dec.{ltb}
use lib.ListN.{length, get_or}
use borrow.Author.Tests.{ltb-true, lt-ltb}
use Rattle.sums.specs.Choice.{unless_refused}
use Rattle.sums.specs.Sum.{only}
use Rattle.sums.proofs.Choices.{and_split, and-join}
use Rattle.dayfile.specs.declared.Record.{Record}
use Rattle.dayfile.specs.declared.Found.{Found}
use Rattle.dayfile.specs.declared.Found.TheVariants.{End as NoBytes, Cut as TooFew, Whole}
use Rattle.dayfile.specs.declared.Read.{Read}
use Rattle.dayfile.specs.declared.Read.TheVariants.{Good, Bad}
use Rattle.dayfile.specs.declared.Wrote.{Wrote}
use Rattle.dayfile.specs.Records.{fault_of}
use Rattle.dayfile.specs.Reading.{size_of, found_at, judged, read_of, read_at, number_found, number_of, too_few_left, refusal_at, reader_refusal}
use Rattle.dayfile.specs.Written.{writer_refusal, wrote_of, refusal_wrote}
use Rattle.dayfile.proofs.Apart.{zero-is-not-one}
use Rattle.dayfile.proofs.Places.{cut_at, at_cut}
use Rattle.dayfile.proofs.Answers.{wrote-refusal}

-- what stands at a place names 2 exactly where bytes are left, but too few
pub found_number : (s : List ℕ) (at : ℕ) → number_found (found_at s at) ≡ refusal_at s at
found_number s at = by (found_at s at) refl
  where
    other : (found_at s at ≡ TooFew → ⊥) → 0 ≡ refusal_at s at
    other h = nothing (too_few_left s at) refl
      where
        nothing : (t : Bool) → too_few_left s at ≡ t → 0 ≡ only t 2
        nothing false e = refl
        nothing true e =
            let k = and_split (ltb at (length s)) (ltb (length s) (at + size_of (get_or s (at + 1) 0))) e in
            absurd (h (at_cut s at (ltb-true _ _ k.0) (ltb-true _ _ k.1)))

    by : (f : Found) → found_at s at ≡ f → number_found f ≡ refusal_at s at
    by NoBytes e = other (λ h. zero-is-not-one (cc))
    by TooFew e = let k = cut_at s at e in rw (and-join (lt-ltb _ _ k.0) (lt-ltb _ _ k.1))
    by (Whole r next) e = other (λ h. zero-is-not-one (cc))

pub found-named : (s : List ℕ) (at : ℕ) (f : Found) → f ≡ found_at s at → (f ≡ found_at s at) × (number_found f ≡ refusal_at s at)
found-named s at f e = (e, ap number_found e ∙ found_number s at)

-- what the reader gives names 2 there too, and for a whole record its fault
pub read_number : (s : List ℕ) (at : ℕ) → number_of (read_at s at) ≡ reader_refusal (found_at s at)
unfolding read_at read_of judged
read_number s at = by (found_at s at)
  where
    judge : (r : Record) (next n : ℕ) → number_of (unless_refused n (Good r next) (λ m. Bad m r.serial r.code r.account next)) ≡ n
    judge r next zero = refl
    judge r next (suc n) = refl

    by : (f : Found) → number_of (read_of f) ≡ reader_refusal f
    by NoBytes = refl
    by TooFew = refl
    by (Whole r next) = judge r next (fault_of r)

pub read_named : (s : List ℕ) (at : ℕ) (r : Read) → r ≡ read_at s at → (r ≡ read_at s at) × (number_of r ≡ reader_refusal (found_at s at))
read_named s at r e = (e, ap number_of e ∙ read_number s at)

pub wrote-named : (r : Record) (room after past : List ℕ) (x : Wrote) → (x ≡ wrote_of r room) × (after ≡ past)
    → ((x ≡ wrote_of r room) × (refusal_wrote x ≡ writer_refusal r room)) × (after ≡ past)
wrote-named r room after past x h = ((h.0, ap refusal_wrote h.0 ∙ wrote-refusal r room), h.1)
