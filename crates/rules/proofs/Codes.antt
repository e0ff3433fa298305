-- A known code is one of thirteen: proofs go by cases over `Code`.
use mathlib.Core.Bool.{true}
use mathlib.Core.Path.{◌≡◌}
use Prim.Native.Nat.{ℕ, suc, ◌≤◌}
use native.Mathlib.Decide.{ℕ_discrete}
use native.Mathlib.Omega.{arith}
use lib.Dec.{leb}
use borrow.Author.Tests.{leb-true}
use Rattle.sums.proofs.Choices.{and_split}
use Rattle.dayfile.specs.Records.{known_code}

-- which code n is
pub data Code (n : ℕ) : Type 0 where
  open_tm : n ≡ 1 → Code n
  open_client : n ≡ 2 → Code n
  open_cp : n ≡ 3 → Code n
  receive : n ≡ 4 → Code n
  hand_back : n ≡ 5 → Code n
  allocate : n ≡ 6 → Code n
  release : n ≡ 7 → Code n
  pledge : n ≡ 8 → Code n
  unpledge : n ≡ 9 → Code n
  margin : n ≡ 10 → Code n
  retire : n ≡ 11 → Code n
  set_pledged : n ≡ 12 → Code n
  set_margin : n ≡ 13 → Code n

-- the least that n may be, or one above it
next : {n : ℕ} (k : ℕ) → k ≤ n → (n ≡ k → Code n) → (suc k ≤ n → Code n) → Code n
next {n} k h here on = by (ℕ_discrete n k)
  where
    by : Dec (n ≡ k) → Code n
    by (yes q) = here q
    by (no q) = on (omega (arith, h))

-- a known code is one of them
pub known-code-cases : (n : ℕ) → known_code n ≡ true → Code n
known-code-cases n e =
    let within = and_split (leb 1 n) (leb n 13) e in
    let high = leb-true n 13 within.1 in
    next 1 (leb-true 1 n within.0) open_tm (λ h. next 2 h open_client (λ h. next 3 h open_cp (λ h. next 4 h receive (λ h. next 5 h hand_back
    (λ h. next 6 h allocate (λ h. next 7 h release (λ h. next 8 h pledge (λ h. next 9 h unpledge (λ h. next 10 h margin
    (λ h. next 11 h retire (λ h. next 12 h set_pledged (λ h. set_margin (omega (arith, h, high))))))))))))))
