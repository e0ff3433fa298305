-- The lines of archived accounts: docs/DECISIONS.md, K11.
use Rattle.std.specs.Prelude.{List, ◌++◌, ℕ, ◌+◌, ◌*◌, get_or}
use Rattle.text.specs.Numbers.{space, newline, followed}
use Rattle.text.specs.Words.{and_space, sort_word}

-- "a line for each archived account: its number, `tm`, `client` or `cp`, and its TM's number or 0"
unfoldable pub entry_line : ℕ → ℕ → ℕ → List ℕ
entry_line number sort tm = followed number space ++ (and_space (sort_word sort) ++ followed tm newline)

-- document 02, K11: "An archived row is three numbers": the line of the entry that stands behind i others in a list of them
abbrev pub entry_at : List ℕ → ℕ → List ℕ
entry_at entries i = entry_line (get_or entries (3 * i) 0) (get_or entries (3 * i + 1) 0) (get_or entries (3 * i + 2) 0)
