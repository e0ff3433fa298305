-- An array of what a closure answers of each place.
use Rattle.std.proofs.Common.{◌≡◌, ℕ, zero, suc, ◌+◌, ◌<◌, List, get_or, sym, subst, ◌∙◌, arith}
use denote.Param.Members.{Mut}
use Rattle.std.specs.Array.{IsFromFnResultFrom, IsFromFnResult}
use Rattle.std.specs.Iterator.{ActsAs}
use Rattle.sums.specs.Listed.{list_to}
use Rattle.sums.proofs.Lists.{list-is}

module _ {F A : Type 0} (g : Mut F (ℕ × Unit {0}) A) (f : F) (h : ℕ → A) (acts : ActsAs g f h) (ys : List A) (d : A) where
  from-on : (n i j : ℕ) → IsFromFnResultFrom g f ys i n → j < n → get_or ys (i + j) d ≡ h (i + j)
  from-on zero i j e l = absurd (omega arith)
  from-on (suc n) i zero e l = let k : i + zero ≡ i = omega arith in rw k (e.2.1 d ∙ (acts i e.1 e.0 e.3).1)
  from-on (suc n) i (suc j) e l =
      let k : i + suc j ≡ i + 1 + j = omega arith in
      let P : F → Type 0 = λ q. IsFromFnResultFrom g q ys (i + 1) n in
      rw k (from-on n (i + 1) j (subst P (acts i e.1 e.0 e.3).0 e.4) (omega arith))

  -- the array holds what the closure answers
  pub made : (n : ℕ) → IsFromFnResult g f ys n → ys ≡ list_to h n
  made n e =
      sym (list-is h n d ys e.long (λ j l. let k : 0 + j ≡ j = omega arith in rw k at (from-on n 0 j e.each l)))
