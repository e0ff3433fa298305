-- K13: each refusal's number, with the place of the record at fault and the account wanted there, exactly when it applies.
use mathlib.Core.List.{List, [], ◌∷◌, map}
use mathlib.Core.Logic.{◌⊎◌, inl, inr, ⊎_elim}
use mathlib.Core.Path.{◌≡◌, refl, sym, ap, subst, ◌∙◌}
use Prim.Native.Nat.{ℕ, zero, suc, ◌+◌, ◌-◌, ◌≤◌, ◌<◌}
use native.Mathlib.Nat.{sub-zero}
use native.Mathlib.Omega.{arith}
use lib.Dec.{leb}
use lib.ListN.{length, get_or, drop}
use borrow.Author.Tests.{leb-true}
use Rattle.sums.specs.Choice.{unless_refused}
use Rattle.sums.specs.Table.{Line, first, Given, here, later}
use Rattle.sums.proofs.Choices.{refused-by}
use Rattle.sums.proofs.Tables.{given-first, first-given, From, first-from, first_passes}
use Rattle.numbers.specs.Bytes.{Bytes}
use Rattle.numbers.proofs.Numbers.{bytes_drop}
use Rattle.rows.specs.declared.Book.{Book}
use Rattle.rows.specs.Rows.{number_at, place_of}
use Rattle.book.specs.Facts.{Sound}
use Rattle.book.proofs.SoundTest.{sound→}
use Rattle.statement.specs.declared.Finding.{Finding}
use Rattle.statement.specs.Forms.{size_in, parts_in}
use Rattle.statement.specs.Statements.{live_clients, record_faults, surplus_faults, found, finding_from, asked_refusals, statement_finding}
use Rattle.statement.specs.ByTheRules.{OfTM, AtFault, passed, bad, wanting, surplus}
use Rattle.statement.proofs.Asked.{by_number, none-asked}
use Rattle.statement.proofs.Turns.{one_more, too_many, one-wanting}
use Rattle.statement.proofs.Accepted.{right-read, written_read, Each, written_on, each-held, of-tm}

-- ---- the numbers

given-from : (m : ℕ) {k : ℕ} {table : List Line} → Given k table → From m table → m ≤ k
given-from m (here e) f = f.0
given-from m (later e g) f = given-from m g f.1

record-from : (b : Book) (i : ℕ) (l : List ℕ) → From 24 (record_faults b i l)
record-from b i l = (omega arith, (omega arith, (omega arith, (omega arith, (omega arith, (omega arith, tt))))))

surplus-from : (l : List ℕ) → From 24 (surplus_faults l)
surplus-from l = (omega arith, (omega arith, (omega arith, tt)))

-- ---- what is found is so

module _ (b : Book) where
  -- the records' number is 0 or one from 24 on
  found_from : (k : ℕ) (is l : List ℕ) → ((finding_from b k is l).refusal ≡ 0) ⊎ (24 ≤ (finding_from b k is l).refusal)
  unfolding finding_from
  found_from k [] [] = inl refl
  found_from k [] (x ∷ l) = first-from 24 (surplus_faults (x ∷ l)) (surplus-from (x ∷ l))
  found_from k (i ∷ is) [] = inr (omega arith)
  found_from k (i ∷ is) (x ∷ l) =
      by (first (record_faults b i (x ∷ l))) (first-from 24 (record_faults b i (x ∷ l)) (record-from b i (x ∷ l))) _ (found_from (k + 1) is (drop (size_in (x ∷ l)) (x ∷ l)))
    where
      by : (n : ℕ) → (n ≡ 0) ⊎ (24 ≤ n) → (f : Finding) → (f.refusal ≡ 0) ⊎ (24 ≤ f.refusal)
          → ((unless_refused n f (λ m. found m k (number_at b i))).refusal ≡ 0) ⊎ (24 ≤ (unless_refused n f (λ m. found m k (number_at b i))).refusal)
      by zero q f r = r
      by (suc n) q f r = q

  at-fault→ : (k : ℕ) (is l : List ℕ) → Bytes l → 0 < (finding_from b k is l).refusal → AtFault b k is l (finding_from b k is l)
  unfolding finding_from
  at-fault→ k [] [] y h = absurd (omega arith)
  at-fault→ k [] (x ∷ l) y h = surplus (first-given (surplus_faults (x ∷ l)) (first (surplus_faults (x ∷ l))) h refl)
  at-fault→ k (i ∷ is) [] y h = wanting
  at-fault→ k (i ∷ is) (x ∷ l) y h =
      by (first (record_faults b i (x ∷ l))) refl h (λ q. at-fault→ (k + 1) is (drop (size_in (x ∷ l)) (x ∷ l)) (bytes_drop (size_in (x ∷ l)) (x ∷ l) y) q)
    where
      rest : Finding
      rest = finding_from b (k + 1) is (drop (size_in (x ∷ l)) (x ∷ l))

      by : (n : ℕ) → first (record_faults b i (x ∷ l)) ≡ n → 0 < (unless_refused n rest (λ m. found m k (number_at b i))).refusal
          → (0 < rest.refusal → AtFault b (k + 1) is (drop (size_in (x ∷ l)) (x ∷ l)) rest)
          → AtFault b k (i ∷ is) (x ∷ l) (unless_refused n rest (λ m. found m k (number_at b i)))
      by zero e q go =
          subst (λ t. AtFault b k (i ∷ is) t rest) (written_read b i (x ∷ l) e y) (passed (parts_in (x ∷ l)) (right-read b i (x ∷ l) e) (go q))
      by (suc n) e q go = bad (first-given (record_faults b i (x ∷ l)) (suc n) (omega arith) e)

  -- ---- what is so is found

  at-fault← : Sound b → {k : ℕ} {is l : List ℕ} {f : Finding} → Each (λ i. i < b.count) is → AtFault b k is l f → finding_from b k is l ≡ f
  unfolding Each
  at-fault← s e (passed {k} {i} {is} {l} p r w) = written_on b s i e.0 p r k is l ∙ at-fault← s e.1 w
  at-fault← s e (bad {k} {i} {x} {n} {is} {l} g) =
      one_more b k i is (x ∷ l) (omega arith)
      ∙ ap (λ m. unless_refused m (finding_from b (k + 1) is (drop (size_in (x ∷ l)) (x ∷ l))) (λ j. found j k (number_at b i))) (given-first g)
      ∙ sym (refused-by n (finding_from b (k + 1) is (drop (size_in (x ∷ l)) (x ∷ l))) (λ j. found j k (number_at b i)) (λ z. omega (arith, given-from 24 g (record-from b i (x ∷ l)))))
  at-fault← s e (wanting {k} {i} {is}) = one-wanting b k i is
  at-fault← s e (surplus {k} {x} {n} {l} g) = too_many b k (x ∷ l) (omega arith) ∙ ap (λ m. found m k 0) (given-first g)

  -- ---- what is at fault: the numbers, and the account wanted

  pub fault-numbers : {k : ℕ} {is l : List ℕ} {f : Finding} → AtFault b k is l f → (24 ≤ f.refusal) × (f.refusal ≤ 29)
  fault-numbers (passed p r w) = fault-numbers w
  fault-numbers (bad {k} {i} {x} {n} {is} {l} g) =
      (given-from 24 g (record-from b i (x ∷ l)), leb-true n 29 (ap (λ m. leb m 29) (sym (given-first g)) ∙ first_passes (λ m. leb m 29) (record_faults b i (x ∷ l)) refl))
  fault-numbers wanting = (omega arith, omega arith)
  fault-numbers (surplus {k} {x} {n} {l} g) =
      (given-from 24 g (surplus-from (x ∷ l)), leb-true n 29 (ap (λ m. leb m 29) (sym (given-first g)) ∙ first_passes (λ m. leb m 29) (surplus_faults (x ∷ l)) refl))

  wanted-from : {k : ℕ} {is l : List ℕ} {f : Finding} → AtFault b k is l f
      → (k ≤ f.index) × (f.index ≤ k + length is) × (f.wanted ≡ get_or (map (number_at b) is) (f.index - k) 0)
  wanted-from (passed {k} {i} {is} {l} {f} p r w) =
      let g = wanted-from w in
      let j : f.index - k ≡ suc (f.index - (k + 1)) = omega (arith, g.0) in
      (omega (arith, g.0), omega (arith, g.1), g.2 ∙ ap (λ n. get_or (map (number_at b) (i ∷ is)) n 0) (sym j))
  wanted-from (bad {k} {i} {x} {n} {is} {l} g) = let z : k - k ≡ 0 = omega arith in (omega arith, omega arith, ap (λ n. get_or (map (number_at b) (i ∷ is)) n 0) (sym z))
  wanted-from (wanting {k} {i} {is}) = let z : k - k ≡ 0 = omega arith in (omega arith, omega arith, ap (λ n. get_or (map (number_at b) (i ∷ is)) n 0) (sym z))
  wanted-from (surplus {k} {x} {n} {l} g) = (omega arith, omega arith, refl)

  -- the account wanted is the client's whose record would stand there, and 0 behind the last one's
  pub fault-wanted : {is l : List ℕ} {f : Finding} → AtFault b 0 is l f → (f.index ≤ length is) × (f.wanted ≡ get_or (map (number_at b) is) f.index 0)
  fault-wanted {is} {l} {f} w =
      let g = wanted-from w in
      (omega (arith, g.1), g.2 ∙ ap (λ n. get_or (map (number_at b) is) n 0) (sub-zero f.index))

-- ---- the statement of a TM

module _ (b : Book) (tm : ℕ) (s : List ℕ) where
  -- 1, 7 and 8 exactly when they apply, without a place
  pub asked-is-refused : {n : ℕ} → Given n (asked_refusals b tm) → statement_finding b tm s ≡ found n 0 0
  asked-is-refused {n} g =
      let z : n ≡ suc (n - 1) = omega (arith, given-from 1 g (omega arith, (omega arith, (omega arith, tt)))) in
      sym (by_number b tm s (n - 1) (given-first g ∙ z)) ∙ ap (λ m. found m 0 0) (sym z)

  pub refused-is-asked : 0 < (statement_finding b tm s).refusal → (statement_finding b tm s).refusal < 24 → Given (statement_finding b tm s).refusal (asked_refusals b tm)
  unfolding statement_finding
  refused-is-asked p q = by (first (asked_refusals b tm)) refl p q
    where
      rest : Finding
      rest = finding_from b 0 (live_clients b (place_of b tm)) s

      by : (n : ℕ) → first (asked_refusals b tm) ≡ n → 0 < (unless_refused n rest (λ m. found m 0 0)).refusal → (unless_refused n rest (λ m. found m 0 0)).refusal < 24
          → Given (unless_refused n rest (λ m. found m 0 0)).refusal (asked_refusals b tm)
      by zero e p q = ⊎_elim (λ z. absurd (omega arith)) (λ z. absurd (omega arith)) (found_from b 0 (live_clients b (place_of b tm)) s)
      by (suc n) e p q = first-given (asked_refusals b tm) (suc n) (omega arith) e

  -- 24 to 29 exactly when the record at this place is the first at fault, and this account is wanted there
  pub refused-is-at-fault : Bytes s → 24 ≤ (statement_finding b tm s).refusal → OfTM b tm × AtFault b 0 (live_clients b (place_of b tm)) s (statement_finding b tm s)
  unfolding statement_finding
  refused-is-at-fault y h = by (first (asked_refusals b tm)) refl h
    where
      is : List ℕ
      is = live_clients b (place_of b tm)

      by : (n : ℕ) → first (asked_refusals b tm) ≡ n → 24 ≤ (unless_refused n (finding_from b 0 is s) (λ m. found m 0 0)).refusal
          → OfTM b tm × AtFault b 0 is s (unless_refused n (finding_from b 0 is s) (λ m. found m 0 0))
      by zero e q = (of-tm b tm e, at-fault→ b 0 is s y (omega arith))
      by (suc n) e q = absurd (omega (arith, leb-true (first (asked_refusals b tm)) 8 (first_passes (λ m. leb m 8) (asked_refusals b tm) refl)))

  pub at-fault-is-refused : {f : Finding} → OfTM b tm → AtFault b 0 (live_clients b (place_of b tm)) s f → statement_finding b tm s ≡ f
  at-fault-is-refused o w =
      sym (none-asked b tm s o.sound o.live o.sort) ∙ at-fault← b (sound→ b o.sound) (each-held b (place_of b tm)) w
