-- What the call gives, case by case.
use mathlib.Core.Bool.{true, false, not}
use mathlib.Core.List.{List}
use mathlib.Core.Path.{◌≡◌, refl, ap, ◌∙◌}
use Prim.Native.Nat.{ℕ, zero, suc, ◌*◌, ◌≤◌, ◌<◌}
use native.Mathlib.Omega.{arith}
use lib.ListN.{length}
use borrow.Author.Tests.{lt-ltb, le-ltb}
use Rattle.sums.specs.Room.{at_start}
use Rattle.sums.proofs.Tables.{first-here, first-later, none-gives-0}
use Rattle.rows.specs.declared.Book.{Book}
use Rattle.table.specs.Words.{turned}
use Rattle.book.specs.Sound.{sound_b}
use Rattle.gaps.specs.Gaps.{archived}
use Rattle.archiving.specs.Archiving.{retired_of, archive_of}
use Rattle.archival.specs.declared.Archived.{Archived}
use Rattle.archival.specs.Archive.{archive_refusal, archived_of, archive_room}

module _ (b : Book) (room : List ℕ) where
  -- what the call gives, and the room after it
  abbrev pub Gives : Archived → List ℕ → Type 0
  Gives x after = (x ≡ archived_of b room) × (after ≡ archive_room b room)

  with-refusal : (n : ℕ) → archive_refusal b room ≡ n → 0 < n → Gives (record { refusal = n; moved = 0; table = turned b }) room
  unfolding archived_of archive_room
  with-refusal zero e p = absurd (omega arith)
  with-refusal (suc n) e p = rw e (refl, refl)

  pub not_sound : sound_b b ≡ false → Gives (record { refusal = 1; moved = 0; table = turned b }) room
  unfolding archive_refusal
  not_sound e = with-refusal 1 (first-here 1 _ _ (ap not e)) (omega arith)

  module _ (e : sound_b b ≡ true) where
    pub too_short : length room < 3 * retired_of b → Gives (record { refusal = 23; moved = 0; table = turned b }) room
    unfolding archive_refusal
    too_short l = with-refusal 23 (first-later 1 _ _ (ap not e) ∙ first-here 23 _ _ (lt-ltb _ _ l)) (omega arith)

    passes : 3 * retired_of b ≤ length room → archive_refusal b room ≡ 0
    unfolding archive_refusal
    passes l = none-gives-0 _ (ap not e, (le-ltb _ _ l, tt))

    pub all_moved : 3 * retired_of b ≤ length room → Gives (record { refusal = 0; moved = retired_of b; table = turned (archived b) }) (at_start (archive_of b) room)
    unfolding archived_of archive_room
    all_moved l = rw (passes l) (refl, refl)
