-- The archive of a sound book rises by number.
use mathlib.Core.Path.{◌≡◌, ap, ◌∙◌}
use Prim.Native.Nat.{ℕ, ◌*◌, ◌<◌}
use native.Mathlib.Omega.{arith}
use lib.ListN.{get_or}
use Rattle.rows.specs.declared.Book.{Book}
use Rattle.rows.specs.Rows.{number_at}
use Rattle.book.specs.Facts.{Sound}
use Rattle.gaps.specs.Gaps.{place_after}
use Rattle.gaps.proofs.Places.{At, at_place, place-order}
use Rattle.archiving.specs.Archiving.{is_retired, retired_of, archive_of}
use Rattle.archiving.proofs.Entries.{entry_at}

-- "in rising number"
pub archive-rises : (b : Book) → Sound b → (j k : ℕ) → j < k → k < retired_of b → get_or (archive_of b) (3 * j) 0 < get_or (archive_of b) (3 * k) 0
unfolding place_after
archive-rises b s j k l m =
    let x = at_place (is_retired b) b.count j (omega arith) in
    let y = at_place (is_retired b) b.count k m in
    let h = place-order (is_retired b) x.row y.row (omega (arith, x.place, y.place)) in
    omega (arith, number x, number y, s.numbered.rises x.row y.row h y.below)
  where
    number : {i : ℕ} (a : At (is_retired b) b.count i) → get_or (archive_of b) (3 * i) 0 ≡ number_at b a.row
    number a = ap (λ n. get_or (archive_of b) n 0) (omega (arith, a.place)) ∙ entry_at b a.row a.below a.kept 0 (omega arith)
