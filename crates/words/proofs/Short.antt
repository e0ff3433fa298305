-- How long a line is: 205 bytes hold any.
use Rattle.std.proofs.Common.{◌≡◌, ℕ, zero, suc, ◌*◌, ◌^◌, ◌<◌, ◌≤◌, Bool, true, false, ◌&&◌, eqb, List, [], ◌∷◌, ◌++◌, length, refl, arith, length-append}
use Rattle.dayfile.specs.declared.Record.{Record}
use Rattle.dayfile.specs.declared.Read.{Read}
use Rattle.dayfile.specs.declared.Read.TheVariants.{End, Cut, Good, Bad}
use Rattle.dayfile.specs.Files.{WordsFit}
use Rattle.dayfile.specs.Reading.{read_at}
use Rattle.dayfile.specs.Records.{bit, fault_of, least_pledged, good_amount}
use Rattle.dayfile.specs.Taking.{mark_of}
use Rattle.dayfile.proofs.Good.{no-fault-good}
use Rattle.dayfile.proofs.RoundTrip.{read_found}
use Rattle.text.specs.Numbers.{decimal}
use Rattle.text.proofs.Digits.{length_most}
use Rattle.words.specs.Lines.{opens, serial_part, account_part, kind_part, only_part, amounts_part, line_of}
use Rattle.words.specs.Hex.{hex_of, raw_line}
use Rattle.words.specs.Texts.{line_by, line_for}
use Rattle.words.specs.Words as w
use Rattle.words.proofs.Tables.{code-word}
use Rattle.words.proofs.Bodies.{amount-fits}
use Rattle.words.proofs.Lines.{known}
use Rattle.words.proofs.Files.{Part, words-fit}

serial-most : (next : Bool) (n : ℕ) → n < 65536 → length (serial_part next n) ≤ 13
unfolding serial_part
serial-most true n h = omega arith
serial-most false n h = omega (arith, length-append (decimal n) (32 ∷ []), length_most 4 n (omega arith))

account-most : (quiet : Bool) (n : ℕ) → n < 65536 → length (account_part quiet n) ≤ 6
unfolding account_part
account-most true n h = omega arith
account-most false n h = omega (arith, length_most 4 n (omega arith))

kind-most : (b x : ℕ) (word : List ℕ) → length word ≤ 10 → good_amount b 1 x ≡ true → length (kind_part b word x) ≤ 28
unfolding kind_part
kind-most zero x word l h = omega arith
kind-most (suc b) x word l h = omega (arith, length-append word (32 ∷ decimal x), length_most 15 x (amount-fits (suc b) 1 x h))

only-most : (wanted : Bool) (x : ℕ) → x < 10 ^ 16 → length (only_part wanted x) ≤ 17
unfolding only_part
only-most true x h = omega (arith, length_most 15 x h)
only-most false x h = omega arith

module _ (running : ℕ) (r : Record) (f : fault_of r ≡ 0) (fit : WordsFit r) where
  amounts-most : length (amounts_part r) ≤ 147
  unfolding amounts_part
  amounts-most =
      let g = no-fault-good r f in
      let c = kind_part (bit 0 r.named) w.cash r.kinds.cash in
      let d = kind_part (bit 1 r.named) w.deposits r.kinds.deposits in
      let b = kind_part (bit 2 r.named) w.guarantees r.kinds.guarantees in
      let s = kind_part (bit 3 r.named) w.securities r.kinds.securities in
      let p = only_part (eqb (mark_of r.code) 16) r.pledged in
      let m = only_part (eqb (mark_of r.code) 32) r.margin in
      omega (
        arith,
        length-append c (d ++ (b ++ (s ++ (p ++ (m ++ (10 ∷ [])))))),
        length-append d (b ++ (s ++ (p ++ (m ++ (10 ∷ []))))),
        length-append b (s ++ (p ++ (m ++ (10 ∷ [])))),
        length-append s (p ++ (m ++ (10 ∷ []))),
        length-append p (m ++ (10 ∷ [])),
        length-append m (10 ∷ []),
        kind-most (bit 0 r.named) r.kinds.cash w.cash (omega arith) g.cash,
        kind-most (bit 1 r.named) r.kinds.deposits w.deposits (omega arith) g.deposits,
        kind-most (bit 2 r.named) r.kinds.guarantees w.guarantees (omega arith) g.guarantees,
        kind-most (bit 3 r.named) r.kinds.securities w.securities (omega arith) g.securities,
        only-most (eqb (mark_of r.code) 16) r.pledged (amount-fits (bit 4 r.named) (least_pledged r.code) r.pledged g.pledged),
        only-most (eqb (mark_of r.code) 32) r.margin (amount-fits (bit 5 r.named) 0 r.margin g.margin),
      )

  line-most : length (line_of running r) ≤ 205
  unfolding line_of
  line-most =
      let k = known r f in
      let s = serial_part (eqb r.serial running) r.serial in
      let c = w.word_of r.code in
      let a = account_part (opens r.code && eqb r.account 0) r.account in
      omega (
        arith,
        length-append s (c ++ (a ++ amounts_part r)),
        length-append c (a ++ amounts_part r),
        length-append a (amounts_part r),
        serial-most (eqb r.serial running) r.serial fit.serial,
        (code-word r.code k.0 k.1).word.fits,
        account-most (opens r.code && eqb r.account 0) r.account fit.account,
        amounts-most,
      )

hex-length : (x : List ℕ) → length (hex_of x) ≡ 2 * length x
unfolding hex_of
hex-length [] = refl
hex-length (b ∷ x) = omega (arith, hex-length x)

raw-most : (x : List ℕ) → length x ≤ 70 → length (raw_line x) ≤ 205
unfolding raw_line
raw-most x h = omega (arith, length-append (hex_of x) (10 ∷ []), hex-length x)

-- the line of a record, or of a cut end
pub for-most : (running : ℕ) (x : List ℕ) → Part x → length (line_for running x) ≤ 205
unfolding line_for line_by
for-most running x p = by (read_at x 0) refl
  where
    by : (a : Read) → read_at x 0 ≡ a → length (line_by running x a) ≤ 205
    by End e = raw-most x p.most
    by Cut e = raw-most x p.most
    by (Bad reason serial code account next) e = raw-most x p.most
    by (Good r next) e = let f = read_found x 0 e in line-most running r f.1 (words-fit x 0 p.bytes f.0)
