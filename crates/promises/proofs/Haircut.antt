-- K7, government securities at their haircut, and K8 on taking over: document 02's sentences as theorems. What they count for: `rows.Rows.counted`, and the figures
-- of Claim.
use mathlib.Core.Bool.{Bool, true, false}
use mathlib.Core.List.{List}
use mathlib.Core.Path.{◌≡◌, refl}
use Prim.Native.Nat.{ℕ, ◌≤◌}
use native.Mathlib.Omega.{arith}
use Rattle.rows.specs.declared.Rule.{Rule}
use Rattle.rows.specs.declared.Book.{Book}
use Rattle.rows.specs.Rows.{counted}
use Rattle.rows.proofs.Counted.{counted-most, counted-rises}
use Rattle.book.specs.Sound.{sound_b}
use Rattle.book.specs.Facts.{Sound}
use Rattle.book.specs.TakeOver.{sound_by_the_old, take_over_refusal, needs_renewed, taken_over}
use Rattle.book.proofs.SoundTest.{sound←}
use Rattle.book.proofs.TakeOver.{renewed-sound, old-formed, takes-over, takes-not}
use Rattle.dayfile.specs.declared.Record.{Record}
use Rattle.promises.specs.Sequences.{after_all}
use Rattle.promises.proofs.Quick.{all_sound}

-- By either rule securities count for no more than their face value, ..
pub securities-count-for-no-more : (rule : Rule) (face : ℕ) → counted rule face ≤ face
securities-count-for-no-more = counted-most

-- .. and more of them for no less.
pub more-securities-count-for-no-less : (rule : Rule) (face more : ℕ) → face ≤ more → counted rule face ≤ counted rule more
more-securities-count-for-no-less = counted-rises

-- "1 and the same book if it isn't sound by the old rule" (K8: and no longer asks for cover by the new), ..
pub not-taken-over : (b : Book) → sound_by_the_old b ≡ false → (take_over_refusal b ≡ 1) × (taken_over b ≡ b)
not-taken-over = takes-not

-- .. "otherwise the book with its kept needs worked out afresh and nothing else changed."
pub taken-over : (b : Book) → sound_by_the_old b ≡ true → (take_over_refusal b ≡ 0) × (taken_over b ≡ needs_renewed b)
taken-over = takes-over

-- a book that is taken over was sound by the old rule
over : (b : Book) → take_over_refusal b ≡ 0 → sound_by_the_old b ≡ true
over b e = by (sound_by_the_old b) refl
  where
    by : (t : Bool) → sound_by_the_old b ≡ t → sound_by_the_old b ≡ true
    by true q = q
    by false q = let one = (takes-not b q).0 in absurd (omega (arith, e, one))

taken-sound : (b : Book) → take_over_refusal b ≡ 0 → Sound (taken_over b)
taken-sound b e = rw (takes-over b (over b e)).1 (renewed-sound b (old-formed b (over b e)))

-- A book so taken over is sound, ..
pub a-book-taken-over-is-sound : (b : Book) → take_over_refusal b ≡ 0 → sound_b (taken_over b) ≡ true
a-book-taken-over-is-sound b e = sound← _ (taken-sound b e)

-- .. and every sequence of records from there leaves a sound book: "Demand 3 speaks of the records of one rule, and of a book so taken over."
pub every-sequence-from-a-book-taken-over : (b : Book) → take_over_refusal b ≡ 0 → (rs : List Record) → sound_b (after_all (taken_over b) rs) ≡ true
every-sequence-from-a-book-taken-over b e rs = sound← _ (all_sound (taken_over b) rs (taken-sound b e))
