-- Who has no live client: nobody for whom the test fails, and in a sound book nobody but a TM. Retiring asks for it.
use mathlib.Core.Path.{◌≡◌, refl, ap, ◌∙◌, sym}
use mathlib.Core.Bool.{Bool, true, false, ◌&&◌}
use Prim.Native.Nat.{ℕ, ◌<◌}
use lib.Dec.{eqb}
use borrow.Author.Tests.{eq-eqb, eqb-true}
use Rattle.sums.proofs.Sums.{any-fails, any-from-none}
use Rattle.sums.proofs.Choices.{and-join, and_split, test-clash}
use Rattle.rows.specs.declared.Book.{Book}
use Rattle.rows.specs.Rows.{row_at, has_live_client}
use Rattle.book.specs.Facts.{Sound}

abbrev live_client : Book → ℕ → ℕ → Bool
live_client b t i = eqb (row_at b i).sort 2 && eqb (row_at b i).tm t && (row_at b i).live

-- where the test fails
pub no-live-client : (b : Book) (t : ℕ) → has_live_client b t ≡ false
    → (j : ℕ) → j < b.count → (row_at b j).sort ≡ 2 → (row_at b j).tm ≡ t → (row_at b j).live ≡ true → ⊥
unfolding has_live_client
no-live-client b t h j l c e p =
    test-clash (and-join (and-join (eq-eqb _ _ c) (eq-eqb _ _ e)) p)
    (any-fails b.count (live_client b t) h j l)

-- an account that is no TM, in a sound book
pub no-TM-no-client : (b : Book) (t : ℕ) → Sound b → ((row_at b t).sort ≡ 1 → ⊥)
    → (j : ℕ) → j < b.count → (row_at b j).sort ≡ 2 → (row_at b j).tm ≡ t → ⊥
no-TM-no-client b t s ne j l c e = ne (sym (ap (λ i. (row_at b i).sort) e) ∙ (s.shaped.tms j l c).1)

pub no-TM-none-live : (b : Book) (t : ℕ) → Sound b → ((row_at b t).sort ≡ 1 → ⊥) → has_live_client b t ≡ false
unfolding has_live_client
no-TM-none-live b t s ne = any-from-none b.count (live_client b t) (λ i l. by i l (live_client b t i) refl)
  where
    by : (i : ℕ) → i < b.count → (x : Bool) → live_client b t i ≡ x → live_client b t i ≡ false
    by i l false e = e
    by i l true e =
        let h = and_split (eqb (row_at b i).sort 2) (eqb (row_at b i).tm t) (and_split (eqb (row_at b i).sort 2 && eqb (row_at b i).tm t) (row_at b i).live e).0 in
        absurd (no-TM-no-client b t s ne i l (eqb-true _ _ h.0) (eqb-true _ _ h.1))
