-- A record, by number, is refused alike at a book and at the one without the rows that are not kept, 9 excepted; and the books after it are related as they were.
use mathlib.Core.Bool.{Bool}
use mathlib.Core.Path.{◌≡◌}
use Prim.Native.Nat.{ℕ}
use Rattle.rows.specs.declared.Book.{Book}
use Rattle.rows.specs.Rows.{place_of}
use Rattle.book.specs.Facts.{Sound}
use Rattle.dayfile.specs.declared.Record.{Record}
use Rattle.rules.specs.Numbered.{placed, verdict_of, record_after}
use Rattle.rules.proofs.SoundChange.{change-sound}
use Rattle.thinned.proofs.Thinned.{Thinned}
use Rattle.thinned.proofs.Steps.{same-refusal, after-thinned}
use Rattle.thinned.proofs.Numbers.{same-meaning}

pub sound-on : (b : Book) (r : Record) → Sound b → Sound (record_after b r)
sound-on b r s = change-sound b (placed b r) s

-- THE LAW of one record: it is answered alike, and the books stay related
module _ {keep : ℕ → Bool} {b c : Book} (s : Sound b) (t : Sound c) (d : Thinned keep b c) (r : Record) (ne : verdict_of b r ≡ 9 → ⊥) where
  pub same_answer : verdict_of c r ≡ verdict_of b r
  same_answer = same-refusal s t d (placed b r) (place_of c r.account) (same-meaning s t d r.account) ne

  pub thinned-on : Thinned keep (record_after b r) (record_after c r)
  thinned-on = after-thinned s t d (placed b r) (place_of c r.account) (same-meaning s t d r.account) ne
