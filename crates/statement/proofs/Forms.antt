-- One record: what was written is whole and has no fault of its form, and bytes without such a fault begin with a written record.
use mathlib.Core.Bool.{false, not, ◌||◌}
use mathlib.Core.List.{List, ◌∷◌, ◌++◌, append_assoc}
use mathlib.Core.Path.{◌≡◌, refl, sym, ap, ◌∙◌}
use Prim.Native.Nat.{ℕ, ◌+◌, ◌*◌, ◌≤◌, ◌<◌}
use native.Mathlib.Omega.{arith}
use lib.Count.{ones}
use lib.Dec.{eqb, leb, ltb}
use lib.ListN.{length, get_or, drop, length-append, length-drop}
use lib.Seq.{drop-drop, drop_at}
use borrow.Author.Tests.{eqb-true, leb-false, ltb-false, lt-leb, le-ltb, not-false}
use Rattle.sums.proofs.Choices.{or-fails}
use Rattle.numbers.specs.Bytes.{Bytes, bytes_of}
use Rattle.numbers.proofs.Numbers.{number-bytes_of, length-bytes_of, drop-bytes_of, bytes_of-number, bytes_drop, two_at}
use Rattle.statement.specs.declared.records.Parts.{Parts}
use Rattle.statement.specs.Forms.{set_of, amounts_of, record_for, set_in, size_in, account_in, parts_in, not_whole, bad_amounts}
use Rattle.statement.specs.Inner.{Fits}
use Rattle.statement.proofs.Bodies.{set-lt, parts-back, length-amounts, set_back, amounts-back, bits_of}

-- ---- what was written

module _ (account : ℕ) (p : Parts) (small : account < 65536) (f : Fits p) (t : List ℕ) where
  abbrev l : List ℕ
  l = record_for account p ++ t

  pub set-written : set_in l ≡ set_of p
  unfolding record_for
  set-written = refl

  pub account-written : account_in l ≡ account
  unfolding record_for
  account-written = rw append_assoc (number-bytes_of 2 account (amounts_of p ++ t) small)

  behind : drop 4 l ≡ amounts_of p ++ t
  unfolding record_for
  behind = rw append_assoc (drop-bytes_of 2 account (amounts_of p ++ t))

  pub parts-written : parts_in l ≡ p
  parts-written = rw (set-written, behind) (parts-back p f t)

  length-written : length (record_for account p) ≡ 4 + 8 * ones (set_of p)
  unfolding record_for
  length-written = simp (length-append, length-bytes_of) (omega (arith, length-amounts p))

  pub rest-written : drop (size_in l) l ≡ t
  rest-written = drop_at (record_for account p) t (size_in l) (length-written ∙ ap (λ n. 4 + 8 * ones n) (sym set-written))

  first_byte : get_or l 0 0 ≡ 1
  unfolding record_for
  first_byte = refl

  pub whole-written : not_whole l ≡ false
  whole-written =
      rw (first_byte, set-written, lt-leb 32 (set_of p) (set-lt p))
      (le-ltb (length l) (4 + 8 * ones (set_of p)) (rw (length-append (record_for account p) t, length-written) (omega arith)))

  pub range-written : bad_amounts (set_in l) (parts_in l) ≡ false
  range-written = rw (parts-written, set-written) (bits_of p f)

-- ---- bytes without a fault of their form

module _ (l : List ℕ) (y : Bytes l) (whole : not_whole l ≡ false) (range : bad_amounts (set_in l) (parts_in l) ≡ false) where
  tests : (get_or l 0 0 ≡ 1) × (set_in l < 32) × (size_in l ≤ length l)
  tests =
      let a = or-fails (not (eqb (get_or l 0 0) 1) || leb 32 (set_in l)) (ltb (length l) (size_in l)) whole in
      let c = or-fails (not (eqb (get_or l 0 0) 1)) (leb 32 (set_in l)) a.0 in
      (eqb-true _ _ (not-false _ c.0), leb-false _ _ c.1, ltb-false _ _ a.1)

  pub record-read : record_for (account_in l) (parts_in l) ++ drop (size_in l) l ≡ l
  unfolding record_for
  record-read =
      let n = set_in l in
      let long = tests.2 in
      let e : set_of (parts_in l) ≡ n = set_back n (drop 4 l) tests.1 range in
      let rest : drop (size_in l) l ≡ drop (8 * ones n) (drop 4 l) = sym (drop-drop (8 * ones n) 4 l) in
      let amounts : amounts_of (parts_in l) ++ drop (size_in l) l ≡ drop 4 l =
      ap (λ t. amounts_of (parts_in l) ++ t) rest ∙ amounts-back n (drop 4 l) tests.1 range (bytes_drop 4 l y) (rw length-drop (omega arith)) in
      let number : bytes_of 2 (account_in l) ++ drop 4 l ≡ drop 2 l =
      ap (λ t. bytes_of 2 (account_in l) ++ t) (sym (drop-drop 2 2 l)) ∙ bytes_of-number 2 (drop 2 l) (bytes_drop 2 l y) (rw length-drop (omega arith)) in
      ap (λ k. 1 ∷ k ∷ ((bytes_of 2 (account_in l) ++ amounts_of (parts_in l)) ++ drop (size_in l) l)) e
      ∙ ap (λ t. 1 ∷ n ∷ t) (append_assoc (bytes_of 2 (account_in l)) (amounts_of (parts_in l)) (drop (size_in l) l) ∙ ap (λ t. bytes_of 2 (account_in l) ++ t) amounts ∙ number)
      ∙ ap (λ k. k ∷ n ∷ drop 2 l) (sym tests.0)
      ∙ sym (two_at l 0 (omega arith))
