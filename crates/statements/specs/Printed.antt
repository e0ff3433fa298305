-- What `statements` prints (docs/DECISIONS.md, K13): "`0` where the statement is accepted; `1`, `7` or `8` alone; any other refusal with the record and the account wanted there, as `26 at
-- record 3: account 17 is wanted`, or `no account is wanted`".
use Rattle.std.specs.Prelude.{List, [], ◌∷◌, ◌++◌, ℕ, zero, suc, ltb}
use Rattle.sums.specs.Choice.{pick}
use Rattle.text.specs.Numbers.{space, newline, followed}
use Rattle.text.specs.Words.{refused_at}
use Rattle.statement.specs.declared.Finding.{Finding}

abbrev pub colon : ℕ
colon = 58

-- ` account `
abbrev pub account_word : List ℕ
account_word = 32 ∷ 97 ∷ 99 ∷ 99 ∷ 111 ∷ 117 ∷ 110 ∷ 116 ∷ 32 ∷ []

-- `is wanted`, and the line's end
abbrev pub is_wanted : List ℕ
is_wanted = 105 ∷ 115 ∷ 32 ∷ 119 ∷ 97 ∷ 110 ∷ 116 ∷ 101 ∷ 100 ∷ 10 ∷ []

-- ` no account is wanted`, and the line's end
abbrev pub none_wanted : List ℕ
none_wanted = 32 ∷ 110 ∷ 111 ∷ 32 ∷ 97 ∷ 99 ∷ 99 ∷ 111 ∷ 117 ∷ 110 ∷ 116 ∷ 32 ∷ 105 ∷ 115 ∷ 32 ∷ 119 ∷ 97 ∷ 110 ∷ 116 ∷ 101 ∷ 100 ∷ 10 ∷ []

-- the account wanted: no client has number 0
unfoldable pub wanted_text : ℕ → List ℕ
wanted_text zero = none_wanted
wanted_text (suc n) = account_word ++ (followed (suc n) space ++ is_wanted)

-- the line; refusals from 24 on are a record's
unfoldable pub finding_text : Finding → List ℕ
finding_text f = pick (ltb f.refusal 24) (followed f.refusal newline) (refused_at f.refusal f.index colon ++ wanted_text f.wanted)
