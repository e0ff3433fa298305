-- How long the parts of a file are together, and how many they are: as far as a turn can come.
use mathlib.Core.Bool.{Bool, true, false, ◌&&◌}
use mathlib.Core.List.{List, [], ◌∷◌}
use mathlib.Core.Path.{◌≡◌, refl}
use Prim.Native.Nat.{ℕ, zero, suc, ◌+◌, ◌-◌, ◌≤◌}
use native.Mathlib.Omega.{arith}
use lib.Dec.{eqb, leb}
use lib.ListN.{length, drop, length-drop}
use lib.Seq.{length-take-le}
use Rattle.sums.specs.Choice.{pick}
use Rattle.dayfile.specs.declared.Found.{Found}
use Rattle.dayfile.specs.declared.Found.TheVariants.{End as NoBytes, Cut as TooFew, Whole}
use Rattle.dayfile.specs.Reading.{found_at}
use Rattle.dayfile.proofs.Places.{next-within}
use Rattle.words.specs.Texts.{Turned, puts, fails, on_first, lines_of, records_by, records_to, records_of}
use Rattle.words.specs.Pieces.{stop, taken_by, taken_from}

unfoldable pub together : List (List ℕ) → ℕ
together [] = 0
together (x ∷ xs) = length x + together xs

module _ (ready : List ℕ → Bool) (most : ℕ) (turn : ℕ → List ℕ → Turned) where
  pub within : (xs : List (List ℕ)) (room running : ℕ) → (let k = taken_from ready most turn room running xs in (k.place ≤ together xs) × (k.lines ≤ length xs))
  unfolding taken_from taken_by pick together
  within [] room running = (omega arith, omega arith)
  within (x ∷ xs) room running = by (ready x && leb most room) (turn running x) (λ y next. within xs (room - length y) next)
    where
      by : (u : Bool) (v : Turned) → ((y : List ℕ) (next : ℕ) → (let k = taken_from ready most turn (room - length y) next xs in (k.place ≤ together xs) × (k.lines ≤ length xs)))
          → (let k = pick u (taken_by x running v (λ y next. taken_from ready most turn (room - length y) next xs)) (stop running 0) in (k.place ≤ length x + together xs) × (k.lines ≤ suc (length xs)))
      by false v go = (omega arith, omega arith)
      by true (fails n) go = (omega arith, omega arith)
      by true (puts y next) go = (omega (arith, (go y next).0), omega (arith, (go y next).1))

-- ---- lines

first_more : (b : ℕ) (ls : List (List ℕ)) → (together (on_first b ls) ≡ suc (together ls)) × (length (on_first b ls) ≤ suc (length ls))
unfolding on_first together
first_more b [] = (refl, omega arith)
first_more b (l ∷ ls) = (omega arith, omega arith)

pub lines-within : (t : List ℕ) → (together (lines_of t) ≡ length t) × (length (lines_of t) ≤ length t)
unfolding lines_of together pick
lines-within [] = (refl, omega arith)
lines-within (b ∷ t) = by (eqb b 10) (lines-within t)
  where
    by : (u : Bool) → (together (lines_of t) ≡ length t) × (length (lines_of t) ≤ length t)
        → (let l = pick u ((b ∷ []) ∷ lines_of t) (on_first b (lines_of t)) in (together l ≡ suc (length t)) × (length l ≤ suc (length t)))
    by true h = (omega (arith, h.0), omega (arith, h.1))
    by false h = (omega (arith, h.0, (first_more b (lines_of t)).0), omega (arith, h.1, (first_more b (lines_of t)).1))

-- ---- records

records-to : (k : ℕ) (s : List ℕ) → (together (records_to k s) ≤ length s) × (length (records_to k s) ≤ k)
unfolding records_to records_by together
records-to zero s = (omega arith, omega arith)
records-to (suc k) s = by (found_at s 0) refl (records-to k)
  where
    by : (f : Found) → found_at s 0 ≡ f → ((l : List ℕ) → (together (records_to k l) ≤ length l) × (length (records_to k l) ≤ k))
        → (together (records_by (records_to k) s f) ≤ length s) × (length (records_by (records_to k) s f) ≤ suc k)
    by NoBytes e go = (omega arith, omega arith)
    by TooFew e go = (omega arith, omega arith)
    by (Whole r next) e go =
        let w = next-within s 0 e in
        (omega (arith, (go (drop next s)).0, length-take-le next s w, length-drop next s), omega (arith, (go (drop next s)).1))

pub records-within : (s : List ℕ) → (together (records_of s) ≤ length s) × (length (records_of s) ≤ length s)
records-within s = records-to (length s) s
