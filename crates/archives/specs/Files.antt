-- The text file of archived accounts, byte by byte: docs/DECISIONS.md, K11.
use Rattle.std.specs.Prelude.{Bool, true, false, ◌&&◌, ◌||◌, List, [], ◌∷◌, ◌++◌, ℕ, zero, suc, ◌/◌, eqb, length}
use Rattle.sums.specs.Choice.{pick}
use Rattle.text.specs.Numbers.{newline}
use Rattle.archives.specs.Entries.{entry_at}

-- a line begins behind the bytes: the last of them is a newline, or there are none and one begins where they stand
unfoldable pub begins_behind : Bool → List ℕ → Bool
begins_behind begins [] = begins
begins_behind begins (y ∷ bytes) = begins_behind (eqb y newline) bytes

-- "where its last line isn't ended, that is ended first"
unfoldable pub ended : List ℕ → List ℕ
ended file = pick (begins_behind true file) file (file ++ (newline ∷ []))

-- the bytes begin with a line
unfoldable pub starts_with : List ℕ → List ℕ → Bool
starts_with bytes [] = true
starts_with [] (x ∷ line) = false
starts_with (y ∷ bytes) (x ∷ line) = eqb y x && starts_with bytes line

-- a line, its newline with it, is one of those that begin in the bytes: at the first of them, where a line begins there, or behind a newline
unfoldable pub has_from : Bool → List ℕ → List ℕ → Bool
has_from begins [] line = false
has_from begins (y ∷ bytes) line = begins && starts_with (y ∷ bytes) line || has_from (eqb y newline) bytes line

-- a file whose lines are all ended has the line
abbrev pub has_line : List ℕ → List ℕ → Bool
has_line file line = has_from true file line

-- "The lines that it doesn't have yet are put behind what it has"
unfoldable pub with_line : List ℕ → List ℕ → List ℕ
with_line file line = pick (has_line file line) file (file ++ line)

-- the lines of the first n entries, in their order
unfoldable pub filed_to : List ℕ → List ℕ → ℕ → List ℕ
filed_to file entries zero = file
filed_to file entries (suc n) = with_line (filed_to file entries n) (entry_at entries n)

-- the file with the lines of all entries; where it is longer than before with its last line ended, a line was put
abbrev pub filed : List ℕ → List ℕ → List ℕ
filed file entries = filed_to (ended file) entries (length entries / 3)
