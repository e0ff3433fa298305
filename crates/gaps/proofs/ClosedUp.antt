-- What stands where in a list that is closed up.
use mathlib.Core.Bool.{true}
use mathlib.Core.List.{List, [], ◌∷◌}
use mathlib.Core.Path.{◌≡◌, ap, ◌∙◌}
use Prim.Native.Nat.{ℕ, ◌+◌, ◌-◌, ◌≤◌, ◌<◌}
use native.Mathlib.Omega.{arith}
use lib.ListN.{length, get_or, replicate, length-append, length-replicate, get_or-append}
use lib.Seq.{get_or-append-add}
use Rattle.sums.proofs.Lists.{get_d-same}
use Rattle.rows.specs.declared.Book.{Book}
use Rattle.gaps.specs.Gaps.{place_after, kept_to, kept_of, closed_up}
use Rattle.gaps.proofs.Places.{place-lt, place-most}
use Rattle.gaps.proofs.Closing.{kept-length, kept_at}

module _ (b : Book) (most : b.count ≤ 256) {A : Type 0} (f : ℕ → A) (d : A) where
  abbrev at : ℕ → ℕ
  at = place_after (kept_of b)

  -- the rows kept
  abbrev front : List A
  front = kept_to (kept_of b) (λ i. f i ∷ []) b.count

  pub closed-size : length (closed_up b f d) ≡ 256
  closed-size =
      length-append front _
      ∙ omega (arith, kept-length (kept_of b) f b.count, length-replicate (256 - at b.count) d, place-most (kept_of b) b.count)

  -- a row kept stands at its place
  pub closed_at : (i : ℕ) → i < b.count → kept_of b i ≡ true → get_or (closed_up b f d) (at i) d ≡ f i
  closed_at i l k =
      get_or-append front _ d (at i) (omega (arith, kept-length (kept_of b) f b.count, place-lt (kept_of b) i b.count k l))
      ∙ kept_at (kept_of b) f b.count d i l k

  -- and behind the rows kept all is blank
  pub closed-beyond : (j : ℕ) → at b.count ≤ j → get_or (closed_up b f d) j d ≡ d
  closed-beyond j l =
      let e : j ≡ length front + (j - at b.count) = omega (arith, kept-length (kept_of b) f b.count) in
      ap (λ x. get_or (closed_up b f d) x d) e ∙ get_or-append-add front (replicate (256 - at b.count) d) (j - at b.count) d
      ∙ get_d-same (256 - at b.count) (j - at b.count) d
