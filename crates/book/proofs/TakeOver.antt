-- K7's taking over: which refusal it gives, and that a book so taken over is sound.
use mathlib.Core.Path.{◌≡◌, sym, ap}
use mathlib.Core.Bool.{true, false, not}
use mathlib.Core.List.{List, []}
use Prim.Native.Nat.{ℕ}
use Rattle.sums.specs.Choice.{unless_refused}
use Rattle.sums.specs.Table.{first}
use Rattle.sums.proofs.Tables.{first-here, first-later}
use Rattle.sums.proofs.Choices.{and_left}
use Rattle.rows.specs.declared.Rule.TheVariants.{Old}
use Rattle.rows.specs.declared.Book.{Book}
use Rattle.rows.specs.Rows.{view, with_needs}
use Rattle.rows.specs.KeptNeeds.{needs_afresh}
use Rattle.rows.proofs.KeptNeeds.{afresh-at}
use Rattle.table.specs.declared.Table.{Table}
use Rattle.table.specs.Words.{turned, turned_back}
use Rattle.table.specs.Facts.{Sized}
use Rattle.table.proofs.Turning.{back-and-over, turned-from}
use Rattle.book.specs.declared.Taken.{Taken}
use Rattle.book.specs.Sound.{formed_b, kept_by, covered_by}
use Rattle.book.specs.Facts.{Sound}
use Rattle.book.specs.TakeOver.{sound_by_the_old, take_over_refusal, needs_renewed, taken_over}
use Rattle.book.proofs.Settled.{rows-alone, with_rest}
use Rattle.book.proofs.SoundTest.{formed→, formed-modes}

-- well formed, and its needs worked out afresh
pub renewed-sound : (b : Book) → formed_b b ≡ true → Sound (needs_renewed b)
renewed-sound b e = with_rest (needs_renewed b) (rows-alone b b.serial b.modes (needs_afresh (view b)) (formed→ b e)) (formed-modes b e) (afresh-at (view b))

pub old-formed : (b : Book) → sound_by_the_old b ≡ true → formed_b b ≡ true
unfolding sound_by_the_old
old-formed b e = and_left (formed_b b) (kept_by Old b) (and_left _ (covered_by Old b) e)

module _ (b : Book) where
  pub takes-not : sound_by_the_old b ≡ false → (take_over_refusal b ≡ 1) × (taken_over b ≡ b)
  unfolding taken_over take_over_refusal
  takes-not e = let n = first-here 1 (not (sound_by_the_old b)) [] (ap not e) in (n, ap (λ k. unless_refused k (needs_renewed b) (λ n. b)) n)

  pub takes-over : sound_by_the_old b ≡ true → (take_over_refusal b ≡ 0) × (taken_over b ≡ needs_renewed b)
  unfolding taken_over take_over_refusal first
  takes-over e = let n = first-later 1 (not (sound_by_the_old b)) [] (ap not e) in (n, ap (λ k. unless_refused k (needs_renewed b) (λ n. b)) n)

-- what the call gives: the table as it is, or with the needs worked out afresh
module _ (t : Table) (h : Sized t.marks t.amounts) where
  abbrev given : Taken
  given = record { refusal = take_over_refusal (turned_back t); table = turned (taken_over (turned_back t)) }

  pub not_taken : sound_by_the_old (turned_back t) ≡ false → ◌≡◌ {A = Taken} (record { refusal = 1; table = t }) given
  not_taken e =
      let n = takes-not (turned_back t) e in
      rw (n.0, n.1) (ap (λ (x : Table). record { refusal = 1; table = x }) (sym (back-and-over t h)))

  abbrev renewed : List ℕ → Table
  renewed needs = record { count = t.count; serial = t.serial; marks = t.marks; modes = t.modes; needs = needs; amounts = t.amounts; next = t.next; numbers = t.numbers }

  pub taken : (needs : List ℕ) → sound_by_the_old (turned_back t) ≡ true → needs ≡ needs_afresh (view (turned_back t))
      → ◌≡◌ {A = Taken} (record { refusal = 0; table = renewed needs }) given
  taken needs e q =
      let n = takes-over (turned_back t) e in
      rw (n.0, n.1) (ap (λ (x : Table). record { refusal = 0; table = x }) (turned-from (renewed needs) (needs_renewed (turned_back t)) h (ap (with_needs (turned_back t)) q)))
