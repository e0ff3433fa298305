-- What the reading functions come to, by the places that they read.
use mathlib.Core.Bool.{true, false, not, ◌||◌}
use mathlib.Core.List.{List, [], ◌∷◌}
use mathlib.Core.Path.{◌≡◌, refl, sym, ap, ◌∙◌}
use Prim.Native.Nat.{ℕ, ◌+◌, ◌-◌, ◌*◌, ◌≤◌, ◌<◌}
use native.Mathlib.Nat.{add-zero}
use native.Mathlib.Omega.{arith}
use lib.Count.{ones}
use lib.Dec.{eqb, leb, ltb}
use lib.ListN.{length, get_or, drop, length-drop}
use lib.Seq.{drop-drop, get_or-drop}
use borrow.Author.Tests.{eq-eqb, ne_eqb, leb-false, ltb-false, lt-ltb, le-ltb, le-leb, lt-leb}
use Rattle.sums.specs.Table.{Line, ◌when◌, first}
use Rattle.sums.proofs.Choices.{or_right, or-fails, pick_yes, pick_no}
use Rattle.sums.proofs.Tables.{first-here, first-later, first_some, first-none, first-fails, Numbered}
use Rattle.numbers.specs.Bytes.{number}
use Rattle.dayfile.specs.Records.{bit}
use Rattle.dayfile.specs.Reading.{size_of}
use Rattle.dayfile.proofs.Amounts.{number_bit, past-bit}
use Rattle.statement.specs.declared.records.Parts.{Parts}
use Rattle.statement.specs.Forms.{set_in, size_in, account_in, parts_from, parts_in, not_whole, bad_amounts, form_faults}
use Rattle.statement.specs.Statements.{adds_up, sum_faults, faults_for, surplus_faults}
use Rattle.statement.specs.Inner.{wanted_refusal}

-- where five marks add up to the ones, each amount's eight bytes are there
module _ (a b c d e o place len : ℕ) (h : o ≡ a + (b + (c + (d + e)))) (k : place + 8 * o ≤ len) where
  pub within0 : place + 8 * a ≤ len
  within0 = omega arith

  pub within1 : place + 8 * a + 8 * b ≤ len
  within1 = omega arith

  pub within2 : place + 8 * a + 8 * b + 8 * c ≤ len
  within2 = omega arith

  pub within3 : place + 8 * a + 8 * b + 8 * c + 8 * d ≤ len
  within3 = omega arith

  pub within4 : place + 8 * a + 8 * b + 8 * c + 8 * d + 8 * e ≤ len
  within4 = omega arith

module _ (s : List ℕ) (place : ℕ) where
  pub parts_at : (n : ℕ) → ◌≡◌ {A = Parts} (record {
    received = number (8 * bit 0 n) (drop place s);
    retained = number (8 * bit 1 n) (drop (place + 8 * bit 0 n) s);
    placed = number (8 * bit 2 n) (drop (place + 8 * bit 0 n + 8 * bit 1 n) s);
    held = number (8 * bit 3 n) (drop (place + 8 * bit 0 n + 8 * bit 1 n + 8 * bit 2 n) s);
    lodged = number (8 * bit 4 n) (drop (place + 8 * bit 0 n + 8 * bit 1 n + 8 * bit 2 n + 8 * bit 3 n) s);
  })
      (parts_from n (drop place s))
  unfolding parts_from
  parts_at n = simp (past-bit, number_bit, drop-drop)

  abbrev l : List ℕ
  l = drop place s

  abbrev named : ℕ
  named = get_or s (place + 1) 0

  pub set_at : set_in l ≡ named
  set_at = get_or-drop place s 1 0

  pub size-at : (n : ℕ) → n ≡ size_of named → n - 2 ≡ size_in l
  size-at n e = rw set_at (omega arith)

  pub short : length s - place < 4 → true ≡ not_whole l
  short h = sym (or_right (not (eqb (get_or l 0 0) 1) || leb 32 (set_in l)) (lt-ltb (length l) (size_in l) (rw length-drop (omega arith))))

  pub not-whole-at : (n : ℕ) → n ≡ size_in l → (not (eqb (get_or s place 0) 1) || leb 32 named || ltb (length s - place) n) ≡ not_whole l
  not-whole-at n e =
      let z : get_or l 0 0 ≡ get_or s place 0 = get_or-drop place s 0 0 ∙ ap (λ k. get_or s k 0) (add-zero place) in
      rw (z, set_at, length-drop) (ap (λ k. not (eqb (get_or s place 0) 1) || leb 32 named || ltb (length s - place) k) (e ∙ ap (λ k. 4 + 8 * ones k) set_at))

  pub parts-in-at : parts_from named (drop (place + 4) s) ≡ parts_in l
  parts-in-at = rw (set_at, drop-drop)

  pub account-at : number 2 (drop (place + 2) s) ≡ account_in l
  account-at = rw drop-drop

  module _ (whole : not_whole l ≡ false) (inside : place ≤ length s) where
    both : (leb 32 (set_in l) ≡ false) × (ltb (length l) (size_in l) ≡ false)
    both =
        let a = or-fails (not (eqb (get_or l 0 0) 1) || leb 32 (set_in l)) (ltb (length l) (size_in l)) whole in
        ((or-fails (not (eqb (get_or l 0 0) 1)) (leb 32 (set_in l)) a.0).1, a.1)

    pub named-lt : named < 32
    named-lt = rw (← set_at) (leb-false 32 (set_in l) both.0)

    pub size-within : place + size_in l ≤ length s
    size-within = omega (arith, ltb-false (length l) (size_in l) both.1, length-drop place s)

    pub long-enough : place + 4 + 8 * ones named ≤ length s
    long-enough = rw (← set_at) (omega (arith, size-within))

    -- the bytes of the form are there
    pub whole-at : (place + 4 + 8 * ones named ≤ length s) × (named < 32)
    whole-at = (long-enough, named-lt)

  -- ---- faults of the form

  bad-at : bad_amounts named (parts_from named (drop (place + 4) s)) ≡ bad_amounts (set_in l) (parts_in l)
  bad-at = λ j. bad_amounts (sym set_at j) (parts-in-at j)

  pub form-24 : not_whole l ≡ true → 24 ≡ first (form_faults l)
  form-24 h = sym (first-here 24 (not_whole l) ((25 when bad_amounts (set_in l) (parts_in l)) ∷ []) h)

  module _ (whole : not_whole l ≡ false) where
    past-24 : first (form_faults l) ≡ first ((25 when bad_amounts (set_in l) (parts_in l)) ∷ [])
    past-24 = first-later 24 (not_whole l) ((25 when bad_amounts (set_in l) (parts_in l)) ∷ []) whole

    pub form-25 : bad_amounts named (parts_from named (drop (place + 4) s)) ≡ true → 25 ≡ first (form_faults l)
    form-25 h = sym (past-24 ∙ first-here 25 (bad_amounts (set_in l) (parts_in l)) [] (sym bad-at ∙ h))

    pub form-0 : bad_amounts named (parts_from named (drop (place + 4) s)) ≡ false → 0 ≡ first (form_faults l)
    unfolding first
    form-0 h = sym (past-24 ∙ first-later 25 (bad_amounts (set_in l) (parts_in l)) [] (sym bad-at ∙ h))

  pub form-clear : first (form_faults l) ≡ 0 → (not_whole l ≡ false) × (bad_amounts (set_in l) (parts_in l) ≡ false)
  form-clear h =
      let f₂₄ = first-fails 24 (not_whole l) ((25 when bad_amounts (set_in l) (parts_in l)) ∷ []) (omega arith) h in
      (f₂₄.0, (first-fails 25 (bad_amounts (set_in l) (parts_in l)) [] (omega arith) f₂₄.1).0)

  numbered : Numbered (form_faults l)
  numbered = (omega arith, (omega arith, tt))

  -- ---- behind the last client's record

  module _ (f : ℕ) (e : f ≡ first (form_faults l)) where
    pub surplus-form : (f ≡ 0 → ⊥) → f ≡ first (surplus_faults l)
    surplus-form h = e ∙ sym (first_some (form_faults l) ((26 when true) ∷ []) (λ z. h (e ∙ z)))

    pub surplus-26 : f ≡ 0 → 26 ≡ first (surplus_faults l)
    surplus-26 h = sym (first-none (form_faults l) ((26 when true) ∷ []) numbered (sym e ∙ h) ∙ first-here 26 true [] refl)

  -- ---- where a client's record is wanted

  module _ (number' received allocated : ℕ) where
    abbrev against : List Line
    against = (26 when not (eqb (account_in l) number')) ∷ sum_faults (parts_in l) received allocated

    pub wanted-end : length s ≤ place → 26 ≡ wanted_refusal s place number' received allocated
    wanted-end h = sym (pick_yes (leb (length s) place) _ _ (le-leb _ _ h))

    module _ (some : place < length s) (f : ℕ) (e : f ≡ first (form_faults l)) where
      here : wanted_refusal s place number' received allocated ≡ first (faults_for number' received allocated l)
      here = pick_no (leb (length s) place) _ _ (lt-leb _ _ some)

      pub wanted-form : (f ≡ 0 → ⊥) → f ≡ wanted_refusal s place number' received allocated
      wanted-form h = e ∙ sym (here ∙ first_some (form_faults l) against (λ z. h (e ∙ z)))

      module _ (z : f ≡ 0) where
        formed : wanted_refusal s place number' received allocated ≡ first against
        formed = here ∙ first-none (form_faults l) against numbered (sym e ∙ z)

        pub wanted-26 : (number 2 (drop (place + 2) s) ≡ number' → ⊥) → 26 ≡ wanted_refusal s place number' received allocated
        wanted-26 h =
            sym (formed ∙ first-here 26 (not (eqb (account_in l) number')) (sum_faults (parts_in l) received allocated) (ap not (ne_eqb _ _ (λ q. h (account-at ∙ q)))))

        pub wanted-sum : number 2 (drop (place + 2) s) ≡ number' → (k : ℕ) → k ≡ first (sum_faults (parts_from named (drop (place + 4) s)) received allocated)
            → k ≡ wanted_refusal s place number' received allocated
        wanted-sum h k q =
            q ∙ ap (λ p. first (sum_faults p received allocated)) parts-in-at
            ∙ sym (formed ∙ first-later 26 (not (eqb (account_in l) number')) (sum_faults (parts_in l) received allocated) (ap not (eq-eqb _ _ (sym account-at ∙ h))))

-- ---- a client's amounts against its totals

module _ (p : Parts) (received allocated : ℕ) where
  abbrev from28 : List Line
  from28 = (28 when not (eqb p.received received)) ∷ (29 when ltb allocated p.lodged) ∷ []

  pub sum-27 : (p.retained + p.placed ≡ p.received → ⊥) → 27 ≡ first (sum_faults p received allocated)
  sum-27 h = sym (first-here 27 (not (adds_up p)) from28 (rw (ne_eqb _ _ h)))

  module _ (one : p.retained + p.placed ≡ p.received) where
    pub sum-27-too : (p.held + p.lodged ≡ p.placed → ⊥) → 27 ≡ first (sum_faults p received allocated)
    sum-27-too h = sym (first-here 27 (not (adds_up p)) from28 (rw (eq-eqb _ _ one, ne_eqb _ _ h)))

    module _ (two : p.held + p.lodged ≡ p.placed) where
      past-27 : first (sum_faults p received allocated) ≡ first from28
      past-27 = first-later 27 (not (adds_up p)) from28 (rw (eq-eqb _ _ one, eq-eqb _ _ two))

      pub sum-28 : (p.received ≡ received → ⊥) → 28 ≡ first (sum_faults p received allocated)
      sum-28 h = sym (past-27 ∙ first-here 28 (not (eqb p.received received)) ((29 when ltb allocated p.lodged) ∷ []) (rw (ne_eqb _ _ h)))

      module _ (three : p.received ≡ received) where
        past-28 : first (sum_faults p received allocated) ≡ first ((29 when ltb allocated p.lodged) ∷ [])
        past-28 = past-27 ∙ first-later 28 (not (eqb p.received received)) ((29 when ltb allocated p.lodged) ∷ []) (ap not (eq-eqb _ _ three))

        pub sum-29 : allocated < p.lodged → 29 ≡ first (sum_faults p received allocated)
        sum-29 h = sym (past-28 ∙ first-here 29 (ltb allocated p.lodged) [] (lt-ltb _ _ h))

        pub sum-0 : p.lodged ≤ allocated → 0 ≡ first (sum_faults p received allocated)
        unfolding first
        sum-0 h = sym (past-28 ∙ first-later 29 (ltb allocated p.lodged) [] (le-ltb _ _ h))
