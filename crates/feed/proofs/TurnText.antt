-- A turn's own number, and what it prints.
use mathlib.Core.Bool.{Bool, true, false}
use mathlib.Core.List.{List, []}
use mathlib.Core.Path.{◌≡◌, refl, sym, ap, ◌∙◌}
use Prim.Native.Nat.{ℕ, zero, suc, ◌≤◌, ◌<◌, min}
use native.Mathlib.Nat.{zero-add}
use native.Mathlib.Omega.{arith}
use lib.ListN.{length}
use Rattle.sums.proofs.Choices.{pick_yes, pick_no}
use Rattle.rows.specs.declared.Book.{Book}
use Rattle.records.specs.declared.Closing.{Closing}
use Rattle.records.specs.declared.Closing.TheVariants.{End, Cut, Long, Unsound}
use Rattle.records.specs.Runs.{Ran, run_of}
use Rattle.records.proofs.Stops.{run-stops}
use Rattle.telling.specs.Told.{told_of}
use Rattle.telling.specs.Explained.{line_told}
use Rattle.telling.specs.Inner.{held_to}
use Rattle.feed.specs.Inner.{turn_takes, turn_text}

pub takes-some : (w : Closing) (read : ℕ) → 0 < turn_takes w read
takes-some End read = omega arith
takes-some Cut read = omega arith
takes-some Long read = omega arith
takes-some Unsound read = omega arith

-- what the loop that tells was held to
pub takes_told : (w : Closing) (read left : ℕ) → read ≤ left → left ≤ 1_000_000 → (w ≡ Long → 0 < left → 0 < read) → held_to w read left ≡ min left (turn_takes w read)
takes_told End read left h k l = omega arith
takes_told Cut read left h k l = omega arith
takes_told Long read zero h k l = omega arith
takes_told Long read (suc n) h k l = omega (arith, l refl (omega arith))
takes_told Unsound read left h k l = omega arith

-- a run by the number that it was held to
pub run-as : {x : Ran} (s : List ℕ) (b : Book) {m n : ℕ} → m ≡ n → x ≡ run_of s m b 0 0 0 → x ≡ run_of s n b 0 0 0
run-as s b e h = h ∙ ap (λ k. run_of s k b 0 0 0) e

-- where nothing is told the stated number is all that a turn is held to
takes_all : (w : Closing) (read left : ℕ) → left ≤ 1_000_000 → (w ≡ Long → read ≡ left) → left ≡ min left (turn_takes w read)
takes_all End read left k l = omega arith
takes_all Cut read left k l = omega arith
takes_all Long read left k l = omega (arith, l refl)
takes_all Unsound read left k l = omega arith

pub run-takes : {x : Ran} (s : List ℕ) (left : ℕ) (b : Book) → left ≤ 1_000_000 → x ≡ run_of s left b 0 0 0 → x ≡ run_of s (min left (turn_takes x.closing x.read)) b 0 0 0
run-takes {x} s left b k e =
    let all : x.closing ≡ Long → x.read ≡ left = λ w. ap (λ (r : Ran). r.read) e ∙ (run-stops s left b 0 0 0).long (sym (ap (λ (r : Ran). r.closing) e) ∙ w) ∙ zero-add left in
    run-as s b (takes_all x.closing x.read left k all) e

-- what a turn prints, where that is asked for and where it isn't
module _ (explained : Bool) (s : List ℕ) (b : Book) where
  pub text-told : {printing : Bool} → printing ≡ true → {m n : ℕ} → m ≡ n → told_of (line_told explained) s m b 0 ≡ turn_text printing explained s n b
  text-told {printing} h {m} {n} e = ap (λ k. told_of (line_told explained) s k b 0) e ∙ sym (pick_yes printing _ _ h)

  pub no_text : {printing : Bool} → printing ≡ false → (n : ℕ) → [] ≡ turn_text printing explained s n b
  no_text {printing} h n = sym (pick_no printing _ _ h)

  pub no_length : {printing : Bool} → printing ≡ false → (n : ℕ) → length (turn_text printing explained s n b) ≡ 0
  no_length h n = ap length (sym (no_text h n))
