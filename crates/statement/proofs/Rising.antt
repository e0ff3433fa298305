-- K13: "One record per live client of the TM, rising number": in a sound book the live clients of a TM rise by number, as by place.
use mathlib.Core.Bool.{Bool, true, false}
use mathlib.Core.List.{List, ◌∷◌}
use mathlib.Core.Path.{◌≡◌, refl}
use Prim.Native.Nat.{ℕ, zero, suc, ◌+◌, ◌≤◌, ◌<◌}
use native.Mathlib.Omega.{arith}
use lib.ListN.{length, get_or}
use Rattle.sums.specs.Choice.{pick}
use Rattle.sums.proofs.Choices.{and_left}
use Rattle.rows.specs.declared.Book.{Book}
use Rattle.rows.specs.Rows.{number_at, view, is_live_client_of}
use Rattle.rows.proofs.BySort.{client-sort}
use Rattle.book.specs.Facts.{Sound}
use Rattle.statement.specs.Statements.{clients_from, live_clients}

module _ (b : Book) (t : ℕ) where
  -- each place is one of the n from i on
  clients-between : (n i j : ℕ) → j < length (clients_from b t n i) → (i ≤ get_or (clients_from b t n i) j 0) × (get_or (clients_from b t n i) j 0 < i + n)
  unfolding clients_from pick
  clients-between zero i j l = absurd (omega arith)
  clients-between (suc n) i j l = by (is_live_client_of b t i) j l (λ k q. clients-between n (i + 1) k q)
    where
      rest : List ℕ
      rest = clients_from b t n (i + 1)

      by : (x : Bool) (j : ℕ) → j < length (pick x (i ∷ rest) rest) → ((k : ℕ) → k < length rest → (i + 1 ≤ get_or rest k 0) × (get_or rest k 0 < i + 1 + n))
          → (i ≤ get_or (pick x (i ∷ rest) rest) j 0) × (get_or (pick x (i ∷ rest) rest) j 0 < i + suc n)
      by true zero q g = (omega arith, omega arith)
      by true (suc j) q g = let h = g j (omega arith) in (omega arith, omega arith)
      by false j q g = let h = g j q in (omega arith, omega arith)

  places-rise : (n i j k : ℕ) → j < k → k < length (clients_from b t n i) → get_or (clients_from b t n i) j 0 < get_or (clients_from b t n i) k 0
  unfolding clients_from pick
  places-rise zero i j k l q = absurd (omega arith)
  places-rise (suc n) i j k l q = by (is_live_client_of b t i) j k l q (λ m o. places-rise n (i + 1) m o)
    where
      rest : List ℕ
      rest = clients_from b t n (i + 1)

      by : (x : Bool) (j k : ℕ) → j < k → k < length (pick x (i ∷ rest) rest) → ((m o : ℕ) → m < o → o < length rest → get_or rest m 0 < get_or rest o 0)
          → get_or (pick x (i ∷ rest) rest) j 0 < get_or (pick x (i ∷ rest) rest) k 0
      by true j zero l q g = absurd (omega arith)
      by true zero (suc k) l q g = omega (arith, (clients-between n (i + 1) k (omega arith)).0)
      by true (suc j) (suc k) l q g = g j k (omega arith) (omega arith)
      by false j k l q g = g j k l q

  pub numbers-rise : Sound b → (j k : ℕ) → j < k → k < length (live_clients b t) → number_at b (get_or (live_clients b t) j 0) < number_at b (get_or (live_clients b t) k 0)
  numbers-rise s j k l q =
      s.numbered.rises (get_or (live_clients b t) j 0) (get_or (live_clients b t) k 0) (places-rise b.count 0 j k l q) (omega (arith, (clients-between b.count 0 k q).1))

  -- each of them is a live client of the TM
  clients-are : (n i j : ℕ) → j < length (clients_from b t n i) → is_live_client_of b t (get_or (clients_from b t n i) j 0) ≡ true
  unfolding clients_from pick
  clients-are zero i j l = absurd (omega arith)
  clients-are (suc n) i j l = by (is_live_client_of b t i) refl j l (λ k q. clients-are n (i + 1) k q)
    where
      rest : List ℕ
      rest = clients_from b t n (i + 1)

      by : (x : Bool) → is_live_client_of b t i ≡ x → (j : ℕ) → j < length (pick x (i ∷ rest) rest) → ((k : ℕ) → k < length rest → is_live_client_of b t (get_or rest k 0) ≡ true)
          → is_live_client_of b t (get_or (pick x (i ∷ rest) rest) j 0) ≡ true
      by true e zero q g = e
      by true e (suc j) q g = g j (omega arith)
      by false e j q g = g j q

  -- so none of them is the CM, whose number is 0
  pub above-0 : Sound b → (j : ℕ) → j < length (live_clients b t) → 0 < number_at b (get_or (live_clients b t) j 0)
  above-0 s j l = by (get_or (live_clients b t) j 0) (clients-are b.count 0 j l) (clients-between b.count 0 j l).1
    where
      by : (i : ℕ) → is_live_client_of b t i ≡ true → i < 0 + b.count → 0 < number_at b i
      by zero e q = absurd (omega (arith, client-sort (view b) t 0 (and_left _ _ e), s.shaped.top))
      by (suc i) e q = omega (arith, s.numbered.rises 0 (suc i) (omega arith) (omega arith))
