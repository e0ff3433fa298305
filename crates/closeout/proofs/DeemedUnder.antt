-- What is deemed under an account of a sound book, as the pass takes it: the kept need less the margin (K3). No sum stands behind it.
use mathlib.Core.Path.{◌≡◌, refl}
use Prim.Native.Nat.{ℕ, ◌+◌, ◌-◌, ◌≤◌, ◌<◌}
use native.Mathlib.Omega.{arith}
use lib.ListN.{get_or}
use Rattle.sums.proofs.Lists.{at-list_to}
use Rattle.rows.specs.declared.Book.{Book}
use Rattle.rows.specs.View.{need}
use Rattle.rows.specs.Rows.{row_at, view}
use Rattle.rows.specs.DeemedUnder.{DeemedUnder, deemed_under_by}
use Rattle.book.specs.Facts.{Sound}
use Rattle.book.proofs.Settled.{sound-under}
use Rattle.book.proofs.UnderMost.{under-most}

module _ (b : Book) (s : Sound b) (i : ℕ) (l : i < b.count) {under : ℕ} (e : under ≡ get_or b.needs i 0 - (row_at b i).margin) where
  all : DeemedUnder (view b) (deemed_under_by (λ j. (row_at b j).margin) b.needs)
  all = sound-under b s (λ j. (row_at b j).margin) (λ j m. refl)

  its : get_or (deemed_under_by (λ j. (row_at b j).margin) b.needs) i 0 ≡ get_or b.needs i 0 - (row_at b i).margin
  its = at-list_to (λ j. get_or b.needs j 0 - (row_at b j).margin) 256 i 0 (omega (arith, s.most))

  -- with the margin it is the account's need
  pub need-kept : need (view b) i ≡ (row_at b i).margin + under
  need-kept = omega (arith, all.each i l, its)

  -- and it is within 256 ceilings, so that with a margin it fits a word
  pub under-kept : under ≤ 2_560_000_000_000_000
  under-kept = omega (arith, under-most b s _ all i, its)
