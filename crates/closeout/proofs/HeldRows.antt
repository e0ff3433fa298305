-- Of a sound book the close-out looks at the rows held and at kept needs: neither at the serial nor at modes nor at numbers (K11).
use mathlib.Core.Path.{◌≡◌}
use mathlib.Core.Bool.{true}
use mathlib.Core.List.{List, []}
use Prim.Native.Nat.{ℕ}
use Rattle.rows.specs.declared.Book.{Book}
use Rattle.rows.specs.Rows.{with_serial, with_modes}
use Rattle.book.specs.Placed.{place_numbers}
use Rattle.book.specs.Sound.{sound_b}
use Rattle.book.specs.Facts.{Sound}
use Rattle.book.proofs.PlaceNumbers.{renumbered, by-places-sound}
use Rattle.book.proofs.Settled.{all-off}
use Rattle.book.proofs.SoundAfter.{serial-sound}
use Rattle.book.proofs.SoundTest.{sound→, sound←}
use Rattle.closeout.specs.Closing.{close_out_refusal, closed_of, room_of}

-- the book with serial 0 and no mode on, each row's number its place
abbrev pub held : Book → Book
held b = with_serial (with_modes (renumbered b b.count (place_numbers b.count)) []) 0

pub held-sound : (b : Book) → Sound b → Sound (held b)
held-sound b s = serial-sound _ 0 (all-off _ (by-places-sound b s))

pub held_same : (b : Book) (losses room : List ℕ) → sound_b b ≡ true → (closed_of (held b) losses room ≡ closed_of b losses room) × (room_of (held b) losses room ≡ room_of b losses room)
unfolding closed_of room_of close_out_refusal
held_same b losses room s = let u = sound← (held b) (held-sound b (sound→ b s)) in (rw (s, u), rw (s, u))
