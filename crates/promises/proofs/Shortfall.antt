-- K8, prices move: where a shortfall comes from. The fund's bound under it: DemandThree. Every sequence of records, of all thirteen codes,
-- leaves a sound book: `every-sequence` there.
use mathlib.Core.Bool.{Bool, true, false}
use mathlib.Core.List.{List, [], ◌∷◌}
use mathlib.Core.Path.{◌≡◌, refl, subst}
use Prim.Native.Nat.{◌≤◌}
use native.Mathlib.Omega.{arith}
use Rattle.sums.specs.Sum.{sum}
use Rattle.rows.specs.declared.Book.{Book}
use Rattle.rows.specs.View.{need_cm}
use Rattle.rows.specs.Rows.{counted, view, fresh_book}
use Rattle.book.specs.Sound.{sound_b}
use Rattle.book.specs.Asked.{shortfall}
use Rattle.book.proofs.SoundTest.{sound→}
use Rattle.dayfile.specs.declared.Record.{Record}
use Rattle.rules.specs.Numbered.{placed}
use Rattle.rules.proofs.Shortfalls.{record-shortfall}
use Rattle.desk.specs.Steps.{step_of}
use Rattle.desk.proofs.Doing.{unsound-step}
use Rattle.promises.specs.Sequences.{after_all, EachCode}

-- Only codes 12 and 13, which "neither can be refused for want of cover", can raise the shortfall: no record of another code does, carried out or refused, at any book; ..
pub only-12-and-13-raise-it : (b : Book) (r : Record) → (r.code ≡ 12 → ⊥) → (r.code ≡ 13 → ⊥) → shortfall (view (step_of b r).book) ≤ shortfall (view b)
unfolding step_of
only-12-and-13-raise-it b r n₁₂ n₁₃ = by (sound_b b) refl
  where
    sound : sound_b b ≡ true → shortfall (view (step_of b r).book) ≤ shortfall (view b)
    sound e = record-shortfall b (placed b r) (sound→ b e) n₁₂ n₁₃

    by : (t : Bool) → sound_b b ≡ t → shortfall (view (step_of b r).book) ≤ shortfall (view b)
    by true e = sound e
    by false e = subst (λ d. shortfall (view d.book) ≤ shortfall (view b)) (unsound-step b r e) (omega arith)

-- .. so no sequence without them does, ..
pub no-sequence-without-them-raises-it : (b : Book) (rs : List Record) → EachCode (λ n. n ≤ 11) rs → shortfall (view (after_all b rs)) ≤ shortfall (view b)
unfolding EachCode after_all
no-sequence-without-them-raises-it b [] c = omega arith
no-sequence-without-them-raises-it b (r ∷ rs) c =
    let here = c.0 in
    omega (
      arith,
      only-12-and-13-raise-it b r (λ e. omega arith) (λ e. omega arith),
      no-sequence-without-them-raises-it (step_of b r).book rs c.1,
    )

fresh-none : shortfall (view fresh_book) ≡ 0
unfolding sum need_cm fresh_book counted
fresh-none = refl

-- .. and from a fresh book codes 1 to 11 leave it 0.
pub codes-1-to-11-leave-it-0 : (rs : List Record) → EachCode (λ n. n ≤ 11) rs → shortfall (view (after_all fresh_book rs)) ≡ 0
codes-1-to-11-leave-it-0 rs c = omega (arith, no-sequence-without-them-raises-it fresh_book rs c, fresh-none)
