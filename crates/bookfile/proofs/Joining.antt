-- Laws of runs of bytes, one after another and each w long.
use mathlib.Core.List.{List, ◌++◌, append_assoc}
use mathlib.Core.Path.{◌≡◌, sym, ap, ◌∙◌}
use Prim.Native.Nat.{ℕ, zero, suc, ◌+◌, ◌*◌, ◌<◌}
use native.Mathlib.Decide.{ℕ_discrete}
use native.Mathlib.Nat.{add-zero, mul-zero, mul-suc}
use native.Mathlib.Numerals.{add-one}
use native.Mathlib.Omega.{arith}
use lib.ListN.{length, drop, length-append}
use lib.Seq.{sets, drop_at}
use Rattle.numbers.proofs.Rooms.{sets-append}
use Rattle.bookfile.specs.Written.{joined}

pub joined_step : (f : ℕ → List ℕ) (n : ℕ) → joined f (n + 1) ≡ joined f n ++ f n
unfolding joined
joined_step f n = rw add-one

module _ (f : ℕ → List ℕ) (w : ℕ) (wide : (i : ℕ) → length (f i) ≡ w) where
  pub length-joined : (n : ℕ) → length (joined f n) ≡ w * n
  unfolding joined
  length-joined zero = sym (mul-zero w)
  length-joined (suc n) = length-append (joined f n) (f n) ∙ omega (arith, length-joined n, wide n, mul-suc w n)

  -- a run put where the last one ended
  pub joined-put : (l m r : List ℕ) (at n : ℕ) → m ≡ sets l at (joined f n) → r ≡ sets m (at + w * n) (f n) → r ≡ sets l at (joined f (n + 1))
  joined-put l m r at n p q =
      q
      ∙ ap (λ (x : List ℕ). sets x (at + w * n) (f n)) p
      ∙ ap (λ (k : ℕ). sets (sets l at (joined f n)) (at + k) (f n)) (sym (length-joined n))
      ∙ sets-append (joined f n) (f n) l at
      ∙ ap (sets l at) (sym (joined_step f n))

  -- run i stands behind i others, whatever follows them all
  pub joined_at : (n i : ℕ) (q : List ℕ) → i < n → drop (w * i) (joined f n ++ q) ≡ f i ++ drop (w * i + w) (joined f n ++ q)
  unfolding joined
  joined_at zero i q l = absurd (omega arith)
  joined_at (suc n) i q l = rw (append_assoc (joined f n) (f n) q) (by (ℕ_discrete i n) (joined_at n i (f n ++ q)))
    where
      by : Dec (i ≡ n) → (i < n → drop (w * i) (joined f n ++ (f n ++ q)) ≡ f i ++ drop (w * i + w) (joined f n ++ (f n ++ q)))
          → drop (w * i) (joined f n ++ (f n ++ q)) ≡ f i ++ drop (w * i + w) (joined f n ++ (f n ++ q))
      by (no e) r = r (omega arith)
      by (yes e) r =
          let front : drop (w * n) (joined f n ++ (f n ++ q)) ≡ f n ++ q = drop_at (joined f n) (f n ++ q) (w * n) (length-joined n) in
          let both : length (joined f n ++ f n) ≡ w * n + w = length-append (joined f n) (f n) ∙ omega (arith, length-joined n, wide n) in
          let rest : drop (w * n + w) (joined f n ++ (f n ++ q)) ≡ q =
          ap (drop (w * n + w)) (sym (append_assoc (joined f n) (f n) q)) ∙ drop_at (joined f n ++ f n) q (w * n + w) both in
          rw (e, rest) front

-- runs that stand in a list one after another are the list
pub joined-from : (f : ℕ → List ℕ) (w at n : ℕ) (s : List ℕ) → ((i : ℕ) → i < n → f i ++ drop (at + w * i + w) s ≡ drop (at + w * i) s)
    → joined f n ++ drop (at + w * n) s ≡ drop at s
unfolding joined
joined-from f w at zero s h = rw (mul-zero, add-zero)
joined-from f w at (suc n) s h =
    let e : at + w * suc n ≡ at + w * n + w = omega (arith, mul-suc w n) in
    append_assoc (joined f n) (f n) (drop (at + w * suc n) s)
    ∙ ap (λ (k : ℕ). joined f n ++ (f n ++ drop k s)) e
    ∙ ap (λ (x : List ℕ). joined f n ++ x) (h n (omega arith))
    ∙ joined-from f w at n s (λ i l. h i (omega arith))
