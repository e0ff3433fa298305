-- A record's bytes after the mark: written and read back, read and written back.
use mathlib.Core.List.{List, ◌∷◌, ◌++◌, append_assoc}
use mathlib.Core.Path.{◌≡◌, ap}
use Prim.Native.Nat.{ℕ, ◌+◌, ◌*◌, ◌/◌, ◌^◌, ◌≤◌, ◌<◌}
use native.Mathlib.Omega.{arith}
use lib.Count.{ones}
use lib.ListN.{length, drop, length-drop}
use lib.Seq.{drop-drop}
use Rattle.numbers.specs.Bytes.{Bytes}
use Rattle.numbers.proofs.Numbers.{number-bytes_of, drop-bytes_of, bytes_of-number, bytes_drop}
use Rattle.dayfile.specs.declared.Record.{Record}
use Rattle.dayfile.specs.Files.{WordsFit}
use Rattle.dayfile.specs.Records.{least_pledged, bit}
use Rattle.dayfile.specs.Written.{body_of, written_of}
use Rattle.dayfile.specs.Reading.{past, record_of}
use Rattle.dayfile.proofs.Marks.{ones-bits, ones-zero}
use Rattle.dayfile.proofs.Amounts.{got-field, past-field, field-got, past-length, past-bit, bytes_past}
use Rattle.dayfile.proofs.Good.{Good}

pub record-body : (r : Record) → Good r → WordsFit r → (q : List ℕ) → record_of r.code r.named (body_of r ++ q) ≡ r
unfolding record_of body_of
record-body r s w q =
    let hs : r.serial < 256 ^ 2 = w.serial in
    let ha : r.account < 256 ^ 2 = w.account in
    simp (
      append_assoc,
      number-bytes_of 2 r.serial,
      number-bytes_of 2 r.account,
      drop-bytes_of,
      past-field,
      got-field (bit 0 r.named) 1 r.kinds.cash s.cash,
      got-field (bit 1 r.named) 1 r.kinds.deposits s.deposits,
      got-field (bit 2 r.named) 1 r.kinds.guarantees s.guarantees,
      got-field (bit 3 r.named) 1 r.kinds.securities s.securities,
      got-field (bit 4 r.named) (least_pledged r.code) r.pledged s.pledged,
      got-field (bit 5 r.named) 0 r.margin s.margin,
    )

body-record : (c n : ℕ) (l : List ℕ) → Bytes l → n < 64 → 4 + 8 * ones n ≤ length l
    → body_of (record_of c n l) ++ drop (4 + 8 * ones n) l ≡ l
unfolding record_of body_of
body-record c n l y h k =
    let la = drop 2 l in
    let l0 = drop 2 la in
    let l1 = past (bit 0 n) l0 in
    let l2 = past (bit 1 n) l1 in
    let l3 = past (bit 2 n) l2 in
    let l4 = past (bit 3 n) l3 in
    let l5 = past (bit 4 n) l4 in
    let ya = bytes_drop 2 l y in
    let y0 = bytes_drop 2 la ya in
    let y1 = bytes_past (bit 0 n) l0 y0 in
    let y2 = bytes_past (bit 1 n) l1 y1 in
    let y3 = bytes_past (bit 2 n) l2 y2 in
    let y4 = bytes_past (bit 3 n) l3 y3 in
    let y5 = bytes_past (bit 4 n) l4 y4 in
    let o = ones-bits n in
    let z = ones-zero (n / 64) (omega arith) in
    let k0 : 8 * bit 0 n + (8 * bit 1 n + (8 * bit 2 n + (8 * bit 3 n + (8 * bit 4 n + 8 * bit 5 n)))) ≤ length l0 =
    simp length-drop (omega arith) in
    let k1 = past-length (bit 0 n) _ l0 k0 in
    let k2 = past-length (bit 1 n) _ l1 k1 in
    let k3 = past-length (bit 2 n) _ l2 k2 in
    let k4 = past-length (bit 3 n) _ l3 k3 in
    let k5 = past-length (bit 4 n) _ l4 k4 in
    let e0 = field-got (bit 0 n) _ l0 y0 k0 in
    let e1 = field-got (bit 1 n) _ l1 y1 k1 in
    let e2 = field-got (bit 2 n) _ l2 y2 k2 in
    let e3 = field-got (bit 3 n) _ l3 y3 k3 in
    let e4 = field-got (bit 4 n) _ l4 y4 k4 in
    let e5 = field-got (bit 5 n) 0 l5 y5 (omega (arith, k5)) in
    let all : 4 + 8 * ones n ≡ 2 + 2 + 8 * bit 0 n + 8 * bit 1 n + 8 * bit 2 n + 8 * bit 3 n + 8 * bit 4 n + 8 * bit 5 n = omega arith in
    let rest : drop (4 + 8 * ones n) l ≡ past (bit 5 n) l5 = simp (past-bit, drop-drop, all) in
    rw rest (simp (append_assoc, e5, e4, e3, e2, e1, e0, bytes_of-number 2 la ya (simp length-drop (omega arith)), bytes_of-number 2 l y (omega arith)))

-- the bytes of a whole record whose second mark byte has none of the bits 6 and 7
pub written-record : (c n : ℕ) (l : List ℕ) → Bytes l → n < 64 → 4 + 8 * ones n ≤ length l
    → written_of (record_of c n l) ++ drop (4 + 8 * ones n) l ≡ c ∷ n ∷ l
unfolding record_of written_of
written-record c n l y h k = ap (λ (t : List ℕ). c ∷ n ∷ t) (body-record c n l y h k)
