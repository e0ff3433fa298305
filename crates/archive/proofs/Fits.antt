-- The numbers of the rows that moved are within the room that was lent for them.
use mathlib.Core.Bool.{Bool, true, false}
use mathlib.Core.List.{List}
use mathlib.Core.Path.{◌≡◌, refl, ap}
use Prim.Native.Nat.{ℕ, ◌*◌, ◌≤◌, ◌<◌}
use native.Mathlib.Omega.{arith}
use native.Mathlib.Decide.{dec_lt}
use lib.ListN.{length}
use Rattle.rows.specs.declared.Book.{Book}
use Rattle.book.specs.Sound.{sound_b}
use Rattle.archiving.specs.Archiving.{retired_of}
use Rattle.archival.specs.declared.Archived.{Archived}
use Rattle.archival.specs.Archive.{archived_of}
use Rattle.archival.proofs.Answers.{not_sound, too_short, all_moved}

pub moved-fits : (b : Book) (room : List ℕ) → 3 * (archived_of b room).moved ≤ length room
moved-fits b room = by (sound_b b) refl (dec_lt (length room) (3 * retired_of b))
  where
    by : (t : Bool) → sound_b b ≡ t → Dec (length room < 3 * retired_of b) → 3 * (archived_of b room).moved ≤ length room
    by false e d = omega (arith, ap (λ (x : Archived). x.moved) (not_sound b room e).0)
    by true e (yes l) = omega (arith, ap (λ (x : Archived). x.moved) (too_short b room e l).0)
    by true e (no l) = omega (arith, ap (λ (x : Archived). x.moved) (all_moved b room e (omega arith)).0)
