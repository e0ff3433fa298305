-- The words of `margins` (docs/API.md): "`[--record] SERIAL ACCOUNT INITIAL`".
use Rattle.std.specs.Prelude.{Bool, true, false, ◌&&◌, List, [], ◌∷◌, ◌≡◌, ℕ, eqb, leb, Option, None, Some}
use Rattle.sums.specs.Choice.{pick}
use Rattle.margins.specs.declared.asked.Asked.{Asked}
use Rattle.text.specs.Decimals.{decimal_of}
use Rattle.streams.specs.Words.{same_bytes}

-- "SERIAL and ACCOUNT are decimal, at most 65535; INITIAL is decimal"; by "Words .. of another form" nothing is asked
unfoldable pub asked_for : Bool → Option ℕ → Option ℕ → Option ℕ → Option Asked
asked_for as_record None account initial = None
asked_for as_record (Some s) None initial = None
asked_for as_record (Some s) (Some a) None = None
asked_for as_record (Some s) (Some a) (Some i) =
    pick (leb s 65535 && leb a 65535) (Some (record { «record» = as_record; serial = s; account = a; initial = i })) None

-- `--record`
abbrev pub record_word : List ℕ
record_word = 45 ∷ 45 ∷ 114 ∷ 101 ∷ 99 ∷ 111 ∷ 114 ∷ 100 ∷ []

-- what is asked for by so many words, the program's own name among them; the first four behind the name are these
unfoldable pub asked_by_words : ℕ → List ℕ → List ℕ → List ℕ → List ℕ → Option Asked
asked_by_words count a b c d =
    pick (eqb count 4) (asked_for false (decimal_of a) (decimal_of b) (decimal_of c))
    (pick (eqb count 5 && same_bytes a record_word) (asked_for true (decimal_of b) (decimal_of c) (decimal_of d)) None)

-- No contract can say which words a program is given. This one says that there are words by which this is asked for.
pub record Came (r : Option Asked) : Type 0 where
  pub count : ℕ
  pub first : List ℕ
  pub second : List ℕ
  pub third : List ℕ
  pub fourth : List ℕ
  pub is : r ≡ asked_by_words count first second third fourth
