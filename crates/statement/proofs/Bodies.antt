-- A client's five amounts: written and read back, read and written back.
use mathlib.Core.Bool.{false}
use mathlib.Core.List.{List, ◌++◌, append_assoc}
use mathlib.Core.Path.{◌≡◌, refl}
use Prim.Native.Nat.{ℕ, zero, suc, ◌+◌, ◌*◌, ◌≤◌, ◌<◌}
use native.Mathlib.Omega.{arith}
use lib.Count.{ones}
use lib.Dec.{eqb, ltb}
use lib.ListN.{length, drop, length-append}
use lib.Seq.{drop-drop}
use borrow.Author.Tests.{ne_eqb, ltb-false, le-ltb}
use Rattle.sums.proofs.Choices.{or-fails, test-clash}
use Rattle.numbers.specs.Bytes.{Bytes}
use Rattle.numbers.proofs.Numbers.{number-bytes_of, length-bytes_of}
use Rattle.dayfile.specs.Records.{bit}
use Rattle.dayfile.specs.Reading.{got, past}
use Rattle.dayfile.specs.Written.{field}
use Rattle.dayfile.proofs.Marks.{bit-lt}
use Rattle.dayfile.proofs.Amounts.{past-field, past-bit, field-got, past-length, bytes_past}
use Rattle.statement.specs.declared.records.Parts.{Parts}
use Rattle.statement.specs.Forms.{bit_for, set_of, amounts_of, parts_from, four_ceilings, bad_amount, bad_amounts}
use Rattle.statement.specs.Inner.{Fits}
use Rattle.statement.proofs.Bits.{mark-lt, bit0, bit1, bit2, bit3, bit4, bits_back, ones-five}

-- ---- written and read back

got-mark : (x : ℕ) → x ≤ four_ceilings → (t : List ℕ) → got (bit_for x) (field (bit_for x) x ++ t) ≡ x
unfolding bit_for got field
got-mark zero h t = refl
got-mark (suc n) h t = number-bytes_of 8 (suc n) t (omega arith)

length-mark : (x : ℕ) → length (field (bit_for x) x) ≡ 8 * bit_for x
unfolding bit_for field
length-mark zero = refl
length-mark (suc n) = length-bytes_of 8 (suc n)

not-bad : (x : ℕ) → x ≤ four_ceilings → bad_amount (bit_for x) x ≡ false
unfolding bit_for
not-bad zero h = refl
not-bad (suc n) h = rw (ne_eqb (suc n) 0 (λ e. omega arith)) (le-ltb four_ceilings (suc n) h)

module _ (p : Parts) where
  abbrev m0 : ℕ
  m0 = bit_for p.received

  abbrev m1 : ℕ
  m1 = bit_for p.retained

  abbrev m2 : ℕ
  m2 = bit_for p.placed

  abbrev m3 : ℕ
  m3 = bit_for p.held

  abbrev m4 : ℕ
  m4 = bit_for p.lodged

  bits : (bit 0 (set_of p) ≡ m0) × (bit 1 (set_of p) ≡ m1) × (bit 2 (set_of p) ≡ m2) × (bit 3 (set_of p) ≡ m3) × (bit 4 (set_of p) ≡ m4)
  unfolding set_of
  bits =
      let h0 = mark-lt p.received in
      let h1 = mark-lt p.retained in
      let h2 = mark-lt p.placed in
      let h3 = mark-lt p.held in
      let h4 = mark-lt p.lodged in
      (bit0 m0 m1 m2 m3 m4 h0 h1 h2 h3 h4, bit1 m0 m1 m2 m3 m4 h0 h1 h2 h3 h4, bit2 m0 m1 m2 m3 m4 h0 h1 h2 h3 h4, bit3 m0 m1 m2 m3 m4 h0 h1 h2 h3 h4, bit4 m0 m1 m2 m3 m4 h0 h1 h2 h3 h4)

  pub set-lt : set_of p < 32
  unfolding set_of
  set-lt = omega (arith, mark-lt p.received, mark-lt p.retained, mark-lt p.placed, mark-lt p.held, mark-lt p.lodged)

  pub parts-back : Fits p → (t : List ℕ) → parts_from (set_of p) (amounts_of p ++ t) ≡ p
  unfolding parts_from amounts_of
  parts-back f t =
      rw (bits.0, bits.1, bits.2, bits.3, bits.4)
      (simp (
        append_assoc,
        past-field,
        got-mark p.received f.received,
        got-mark p.retained f.retained,
        got-mark p.placed f.placed,
        got-mark p.held f.held,
        got-mark p.lodged f.lodged,
      ))

  pub length-amounts : length (amounts_of p) ≡ 8 * ones (set_of p)
  unfolding amounts_of
  length-amounts =
      simp (length-append, length-mark)
      (omega (arith, ones-five (set_of p) set-lt, bits.0, bits.1, bits.2, bits.3, bits.4))

  -- no amount of what was written is out of range
  pub bits_of : Fits p → bad_amounts (set_of p) p ≡ false
  unfolding bad_amounts
  bits_of f =
      rw (bits.0, bits.1, bits.2, bits.3, bits.4)
      (rw (not-bad p.received f.received, not-bad p.retained f.retained, not-bad p.placed f.placed, not-bad p.held f.held, not-bad p.lodged f.lodged))

-- ---- read and written back, where the bytes are enough and no amount is out of range

good-amount : (n x : ℕ) → bad_amount n x ≡ false → (n ≡ 0 → x ≡ 0) → n < 2 → (bit_for x ≡ n) × (x ≤ four_ceilings)
unfolding bit_for
good-amount zero x h z l = (rw (z refl), omega (arith, z refl))
good-amount (suc zero) zero h z l = test-clash refl h
good-amount (suc zero) (suc x) h z l = (refl, ltb-false four_ceilings (suc x) (or-fails (eqb (suc x) 0) (ltb four_ceilings (suc x)) h).1)
good-amount (suc (suc n)) x h z l = absurd (omega arith)

got-zero : (n : ℕ) (l : List ℕ) → n ≡ 0 → got n l ≡ 0
unfolding got
got-zero n l e = rw e refl

module _ (n : ℕ) (l0 : List ℕ) (lt : n < 32) (good : bad_amounts n (parts_from n l0) ≡ false) where
  abbrev l1 : List ℕ
  l1 = past (bit 0 n) l0

  abbrev l2 : List ℕ
  l2 = past (bit 1 n) l1

  abbrev l3 : List ℕ
  l3 = past (bit 2 n) l2

  abbrev l4 : List ℕ
  l4 = past (bit 3 n) l3

  abbrev q : Parts
  q = parts_from n l0

  record Each : Type 0 where
    e0 : (bit_for q.received ≡ bit 0 n) × (q.received ≤ four_ceilings)
    e1 : (bit_for q.retained ≡ bit 1 n) × (q.retained ≤ four_ceilings)
    e2 : (bit_for q.placed ≡ bit 2 n) × (q.placed ≤ four_ceilings)
    e3 : (bit_for q.held ≡ bit 3 n) × (q.held ≤ four_ceilings)
    e4 : (bit_for q.lodged ≡ bit 4 n) × (q.lodged ≤ four_ceilings)

  each : Each
  unfolding bad_amounts parts_from
  each =
      let g4 = or-fails _ (bad_amount (bit 4 n) q.lodged) good in
      let g3 = or-fails _ (bad_amount (bit 3 n) q.held) g4.0 in
      let g2 = or-fails _ (bad_amount (bit 2 n) q.placed) g3.0 in
      let g1 = or-fails (bad_amount (bit 0 n) q.received) (bad_amount (bit 1 n) q.retained) g2.0 in
      record {
        e0 = good-amount (bit 0 n) q.received g1.0 (got-zero (bit 0 n) l0) (bit-lt 0 n);
        e1 = good-amount (bit 1 n) q.retained g1.1 (got-zero (bit 1 n) l1) (bit-lt 1 n);
        e2 = good-amount (bit 2 n) q.placed g2.1 (got-zero (bit 2 n) l2) (bit-lt 2 n);
        e3 = good-amount (bit 3 n) q.held g3.1 (got-zero (bit 3 n) l3) (bit-lt 3 n);
        e4 = good-amount (bit 4 n) q.lodged g4.1 (got-zero (bit 4 n) l4) (bit-lt 4 n);
      }

  pub parts-fit : Fits q
  parts-fit = record { received = each.e0.1; retained = each.e1.1; placed = each.e2.1; held = each.e3.1; lodged = each.e4.1 }

  pub set_back : set_of q ≡ n
  unfolding set_of
  set_back = omega (arith, each.e0.0, each.e1.0, each.e2.0, each.e3.0, each.e4.0, bits_back n lt)

  pub amounts-back : Bytes l0 → 8 * ones n ≤ length l0 → amounts_of q ++ drop (8 * ones n) l0 ≡ l0
  unfolding amounts_of parts_from
  amounts-back y0 k =
      let y1 = bytes_past (bit 0 n) l0 y0 in
      let y2 = bytes_past (bit 1 n) l1 y1 in
      let y3 = bytes_past (bit 2 n) l2 y2 in
      let y4 = bytes_past (bit 3 n) l3 y3 in
      let o = ones-five n lt in
      let k0 : 8 * bit 0 n + (8 * bit 1 n + (8 * bit 2 n + (8 * bit 3 n + 8 * bit 4 n))) ≤ length l0 = omega arith in
      let k1 = past-length (bit 0 n) _ l0 k0 in
      let k2 = past-length (bit 1 n) _ l1 k1 in
      let k3 = past-length (bit 2 n) _ l2 k2 in
      let k4 = past-length (bit 3 n) _ l3 k3 in
      let f0 = field-got (bit 0 n) _ l0 y0 k0 in
      let f1 = field-got (bit 1 n) _ l1 y1 k1 in
      let f2 = field-got (bit 2 n) _ l2 y2 k2 in
      let f3 = field-got (bit 3 n) _ l3 y3 k3 in
      let f4 = field-got (bit 4 n) 0 l4 y4 (omega (arith, k4)) in
      let all : 8 * ones n ≡ 8 * bit 0 n + 8 * bit 1 n + 8 * bit 2 n + 8 * bit 3 n + 8 * bit 4 n = omega arith in
      let rest : drop (8 * ones n) l0 ≡ past (bit 4 n) l4 = simp (past-bit, drop-drop, all) in
      rw (rest, each.e0.0, each.e1.0, each.e2.0, each.e3.0, each.e4.0) (simp (append_assoc, f4, f3, f2, f1, f0))
