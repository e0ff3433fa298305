-- A file byte by byte: `15 tm 0`, not ended, with the entries of a TM, number 5, and its client, number 15, filed into it. No line of it is `5 tm 0`.
use mathlib.Core.List.{List, [], ◌∷◌, ◌++◌}
use mathlib.Core.Path.{◌≡◌, refl}
use Prim.Native.Nat.{ℕ}
use Rattle.sums.specs.Choice.{pick}
use Rattle.text.specs.Numbers.{digits, decimal}
use Rattle.archives.specs.Entries.{entry_line}
use Rattle.archives.specs.Files.{begins_behind, ended, starts_with, has_from, with_line, filed_to, filed}

-- `15 tm 0`, `5 tm 0` and `15 client 5`
abbrev before : List ℕ
before = 49 ∷ 53 ∷ 32 ∷ 116 ∷ 109 ∷ 32 ∷ 48 ∷ []

abbrev tm : List ℕ
tm = 53 ∷ 32 ∷ 116 ∷ 109 ∷ 32 ∷ 48 ∷ []

abbrev client : List ℕ
client = 49 ∷ 53 ∷ 32 ∷ 99 ∷ 108 ∷ 105 ∷ 101 ∷ 110 ∷ 116 ∷ 32 ∷ 53 ∷ []

pub example : filed before (5 ∷ 1 ∷ 0 ∷ 15 ∷ 2 ∷ 5 ∷ []) ≡ before ++ (10 ∷ tm ++ (10 ∷ client ++ (10 ∷ [])))
unfolding filed_to ended begins_behind with_line has_from starts_with entry_line decimal digits pick
example = refl
