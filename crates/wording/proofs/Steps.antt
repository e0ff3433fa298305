-- One piece of a file, in either form: what is taken of it, and then what follows it, is what the whole comes to.
use mathlib.Core.Bool.{Bool, true, false, ◌&&◌, ◌||◌}
use mathlib.Core.List.{List, [], ◌∷◌, ◌++◌, append_assoc}
use mathlib.Core.Path.{◌≡◌, refl, sym, ap, ◌∙◌}
use Prim.Native.Nat.{ℕ, ◌+◌, ◌-◌, ◌≤◌, ◌<◌}
use native.Mathlib.Omega.{arith}
use lib.Dec.{eqb, leb}
use lib.ListN.{length, drop}
use borrow.Author.Tests.{le-leb}
use Rattle.sums.specs.Choice.{pick}
use Rattle.sums.proofs.Choices.{test-clash}
use Rattle.dayfile.specs.Reading.{found_at}
use Rattle.words.specs.Texts.{moved, Turned, puts, fails, File, file, wrong, behind, file_by, file_from, line_turned, lines_of, record_turned, records_to, records_of, text_from, on_first}
use Rattle.words.specs.Pieces.{Taking, stop, taken_by, taken_from, ended, is_whole}
use Rattle.words.proofs.GoodLines.{line-told}
use Rattle.words.proofs.LinesAt.{lines_stay}
use Rattle.words.proofs.RecordsAt.{records-stay}
use Rattle.words.proofs.Joining.{follows, joined}
use Rattle.wording.specs.Wording.{too_long, line_within}
use Rattle.wording.specs.Inner.{turned_as, taking}
use Rattle.wording.proofs.Lengths.{within, lines-within, records-within}
use Rattle.wording.proofs.LongLines.{same_taken, plain-text, long-text}

-- no record fails
pub always : (running : ℕ) (xs : List (List ℕ)) → file_from record_turned running xs ≡ file (text_from running xs)
unfolding file_from file_by behind text_from
always running [] = refl
always running (x ∷ xs) = rw (always (moved running x) xs)

within-told : (running : ℕ) (x : List ℕ) → line_within running x ≡ fails 0 → ⊥
unfolding line_within pick
within-told running x = by (too_long x)
  where
    by : (u : Bool) → pick u (fails 34) (line_turned running x) ≡ fails 0 → ⊥
    by true e = let z : ◌≡◌ {A = ℕ} 34 0 = cc in omega arith
    by false e = line-told running x e

record-told : (running : ℕ) (x : List ℕ) → record_turned running x ≡ fails 0 → ⊥
record-told running x e = let z : ◌≡◌ {A = ℕ} 0 1 = cc in omega arith

-- nothing is left of an empty file
pub nothing_left : (spelling : Bool) (running : ℕ) → turned_as spelling running [] ≡ file []
unfolding turned_as pick file_from lines_of records_to
nothing_left true running = refl
nothing_left false running = refl

-- what a piece comes to before what follows it
abbrev pub Joined : Bool → ℕ → List ℕ → List ℕ → Taking → Type 0
Joined spelling running s more k =
    (k.fault ≡ 0 → turned_as spelling running (s ++ more) ≡ follows k.lines k.bytes (turned_as spelling k.running (drop k.place s ++ more)))
    × ((k.fault ≡ 0 → ⊥) → turned_as spelling running (s ++ more) ≡ wrong (k.lines + 1) k.fault)

module _ (last : Bool) (room running : ℕ) (s : List ℕ) (h : length s ≤ 16454) (short : last ≡ true → length s < 16454) where
  pub step : (spelling : Bool) (more : List ℕ) → (last ≡ true → more ≡ []) → Joined spelling running s more (taking spelling last room running s)
  unfolding turned_as taking pick
  step true more end = joined records_of (λ x. last || is_whole (found_at x 0)) 205 record_turned record-told more (records-stay last more end) (records_of s) s room running refl
  step false more end =
      let l = (lines-within s).0 in
      rw (← same_taken last (lines_of s) room running (omega arith) (λ e. omega (arith, short e)))
      (joined lines_of (λ l. last || ended l) 70 line_within within-told more (lines_stay last more end) (lines_of s) s room running refl)

  pub step-within : (spelling : Bool) → ((taking spelling last room running s).place ≤ length s) × ((taking spelling last room running s).lines ≤ length s)
  unfolding taking pick
  step-within true =
      let w = within (λ x. last || is_whole (found_at x 0)) 205 record_turned (records_of s) room running in
      let l = records-within s in
      (omega (arith, w.0, l.0), omega (arith, w.1, l.1))
  step-within false =
      let w = within (λ l. last || ended l) 70 line_turned (lines_of s) room running in
      let l = lines-within s in
      (omega (arith, w.0, l.0), omega (arith, w.1, l.1))

-- ---- nothing taken of a full piece of text

line-some : (t x : List ℕ) (xs : List (List ℕ)) → lines_of t ≡ x ∷ xs → 1 ≤ length x
unfolding lines_of pick on_first
line-some [] x xs e = absurd (let z : ◌≡◌ {A = ℕ} 0 1 = cc in omega arith)
line-some (b ∷ t) x xs e = by (eqb b 10) (lines_of t) e
  where
    by : (u : Bool) (ls : List (List ℕ)) → pick u ((b ∷ []) ∷ ls) (on_first b ls) ≡ x ∷ xs → 1 ≤ length x
    by true ls f = let k : x ≡ b ∷ [] = cc in rw k (omega arith)
    by false [] f = let k : x ≡ b ∷ [] = cc in rw k (omega arith)
    by false (l ∷ ls) f = let k : x ≡ b ∷ l = cc in rw k (omega arith)

none-taken : (room running : ℕ) (x : List ℕ) (xs : List (List ℕ)) → 70 ≤ room → 1 ≤ length x
    → (let k = taken_from (λ l. false || ended l) 70 line_turned room running (x ∷ xs) in k.fault ≡ 0 → k.place ≡ 0 → ended x ≡ false)
unfolding taken_from taken_by pick
none-taken room running x xs r n = by (ended x) (leb 70 room) (le-leb 70 room r) (line_turned running x) refl
  where
    by : (u w : Bool) → w ≡ true → (v : Turned) → line_turned running x ≡ v
        → (let k = pick (u && w) (taken_by x running v (λ y next. taken_from (λ l. false || ended l) 70 line_turned (room - length y) next xs)) (stop running 0) in k.fault ≡ 0 → k.place ≡ 0 → u ≡ false)
    by false w h v f g p = refl
    by true false h v f g p = test-clash h refl
    by true true h (fails m) f g p = absurd (line-told running x (f ∙ ap fails g))
    by true true h (puts y next) f g p = absurd (omega arith)

-- a line without its newline fills the piece: it is too long, whatever follows
pub too_long_lem : (room running : ℕ) (s more : List ℕ) → 70 ≤ room → length s ≡ 16454
    → (let k = taking false false room running s in k.fault ≡ 0 → k.place ≡ 0 → (next : ℕ) → turned_as false next (s ++ more) ≡ wrong 1 34)
unfolding turned_as taking pick
too_long_lem room running s more r h g p next = long-text s more next (plain-text s (λ x xs e. none-taken room running x xs r (line-some s x xs e) (rw e at g) (rw e at p))) h

-- ---- what follows what follows

pub follows_on : (l m : ℕ) (x y : List ℕ) (f : File) → follows l x (follows m y f) ≡ follows (l + m) (x ++ y) f
follows_on l m x y (file z) = ap file (sym (append_assoc x y z))
follows_on l m x y (wrong k n) = ap (λ (j : ℕ). wrong j n) (omega arith)

pub follows-none : (f : File) → f ≡ follows 0 [] f
follows-none (file y) = refl
follows-none (wrong k n) = ap (λ (j : ℕ). wrong j n) (omega arith)
