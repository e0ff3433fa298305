-- The names beside a file's own, by which its new bytes are written before they are brought to its place: the name, a dot and two digits.
use Rattle.std.specs.Prelude.{Bool, true, List, [], ◌∷◌, ◌++◌, ◌≡◌, ℕ, ◌+◌, ◌-◌, ◌/◌, ◌%◌, ◌<◌, ℤ, pos, Option, Result, length, take}
use Rattle.std.specs.IoError.{raw_os_error}
use Rattle.streams.specs.declared.beside.Tried.{Tried}
use Rattle.streams.specs.Calls.{failed_with}

-- `.00`
abbrev pub beside_mark : List ℕ
beside_mark = 46 ∷ 48 ∷ 48 ∷ []

-- the digits of try k, from 0 on
abbrev pub try_digits : ℕ → List ℕ
try_digits k = (48 + k / 10) ∷ (48 + k % 10) ∷ []

-- the name of try k: its last two bytes tell the tries apart
unfoldable pub name_of : ℕ → List ℕ → List ℕ
name_of k name = take (length name - 2) name ++ try_digits k

-- EEXIST, which is 17: there is a file of that name, and the next is tried
abbrev pub taken_by : {T E : Type 0} → (E → Option ℤ) → Result T E → Bool
taken_by number answer = failed_with (pos 17) number answer

-- the try that came last, of a hundred: only the last of them ends it with a name that is taken
pub record LastTry (before after : List ℕ) (m : Tried) : Type 0 where
  pub few : m.tries < 100
  pub name : after ≡ name_of m.tries before
  pub last : taken_by raw_os_error m.made ≡ true → m.tries ≡ 99
