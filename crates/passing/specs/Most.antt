-- "how much would have passed?": the largest amount with which a record is carried out.
use Rattle.std.specs.Prelude.{Bool, not, ◌&&◌, ◌||◌, List, [], ◌∷◌, ℕ, zero, suc, leb, eqb}
use Rattle.std.specs.Int.Count.{ones}
use Rattle.sums.specs.Choice.{pick, unless_refused}
use Rattle.sums.specs.Sum.{only}
use Rattle.sums.specs.Table.{Line, ◌when◌, first}
use Rattle.rows.specs.declared.Book.{Book}
use Rattle.rows.specs.Rows.{ceiling, place_of, is_live}
use Rattle.book.specs.Sound.{sound_b}
use Rattle.dayfile.specs.declared.Record.{Record}
use Rattle.dayfile.specs.Records.{suits}
use Rattle.rules.specs.Numbered.{verdict_of}
use Rattle.passing.specs.declared.Largest.{Largest}

-- r(x): "the record with the book's next serial and that amount x, all others 0". Its code, second mark byte and account are the record's; a
-- second mark byte that names one amount is 1 for cash, 2, 4, 8 for the other kinds, 16 for pledged and 32 for the margin.
abbrev pub with_amount : Book → Record → ℕ → Record
with_amount b r x = record {
  serial = b.serial;
  code = r.code;
  named = r.named;
  account = r.account;
  kinds = record {
    cash = only (eqb r.named 1) x;
    deposits = only (eqb r.named 2) x;
    guarantees = only (eqb r.named 4) x;
    securities = only (eqb r.named 8) x;
  };
  pledged = only (eqb r.named 16) x;
  margin = only (eqb r.named 32) x;
}

-- "with which r(x) is carried out": no refusal meets it
abbrev pub passes_with : Book → Record → ℕ → Bool
passes_with b r x = eqb (verdict_of b (with_amount b r x)) 0

-- "r(least) (1; 0 for codes 10, 12, 13)"
abbrev pub least_of : ℕ → ℕ
least_of code = pick (leb 10 code) 0 1

-- "the code isn't 4 to 10, 12 or 13"
abbrev pub has_amount : ℕ → Bool
has_amount code = leb 4 code && leb code 10 || eqb code 12 || eqb code 13

-- "exactly one amount that suits the code"
abbrev pub names_one : ℕ → ℕ → Bool
names_one code named = suits code named && eqb (ones named) 1

-- "refusals 1; 4 ..; 5 ..; 7"
abbrev pub most_refusals : Book → Record → List Line
most_refusals b r =
    (1 when not (sound_b b))
    ∷ (4 when not (has_amount r.code))
    ∷ (5 when not (names_one r.code r.named))
    ∷ (7 when not (is_live b (place_of b r.account)))
    ∷ []

-- "then, where r(least) would be refused with n, n"
unfoldable pub most_refusal : Book → Record → ℕ
most_refusal b r = unless_refused (first (most_refusals b r)) (verdict_of b (with_amount b r (least_of r.code))) (λ n. n)

-- "the largest x up to the ceiling": tried from n downwards, the first that passes; 0 where none from 1 on does
unfoldable pub largest_to : ℕ → (ℕ → Bool) → ℕ
largest_to zero passes = 0
largest_to (suc n) passes = pick (passes (suc n)) (suc n) (largest_to n passes)

-- an amount, behind no refusal; "n and amount 0"
abbrev pub unless_with : ℕ → ℕ → Largest
unless_with n x = unless_refused n (record { refusal = 0; amount = x }) (λ n. record { refusal = n; amount = 0 })

-- what `most` gives
unfoldable pub most_of : Book → Record → Largest
most_of b r = unless_with (most_refusal b r) (largest_to ceiling (passes_with b r))
