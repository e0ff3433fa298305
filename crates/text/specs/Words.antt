-- Words as bytes, with what stands behind them.
use Rattle.std.specs.Prelude.{List, [], ◌∷◌, ◌++◌, ℕ, zero, suc}
use Rattle.text.specs.Numbers.{space, followed}

-- a word and the space behind it
abbrev pub and_space : List ℕ → List ℕ
and_space word = word ++ (space ∷ [])

-- an account's sort, the code of the record that opened it and 0 for the CM: `cm`, `tm`, `client` or `cp`
abbrev pub sort_word : ℕ → List ℕ
sort_word zero = 99 ∷ 109 ∷ []  -- c m
sort_word (suc zero) = 116 ∷ 109 ∷ []  -- t m
sort_word (suc (suc zero)) = 99 ∷ 108 ∷ 105 ∷ 101 ∷ 110 ∷ 116 ∷ []  -- c l i e n t
sort_word (suc (suc (suc sort))) = 99 ∷ 112 ∷ []  -- c p

-- a refusal and the place, counted from 0, of the record that it is given for: `5 at record 3`, with the byte after it
abbrev pub at_record : List ℕ
at_record = 97 ∷ 116 ∷ 32 ∷ 114 ∷ 101 ∷ 99 ∷ 111 ∷ 114 ∷ 100 ∷ 32 ∷ []  -- a t   r e c o r d

unfoldable pub refused_at : ℕ → ℕ → ℕ → List ℕ
refused_at refusal index mark = followed refusal space ++ (at_record ++ followed index mark)
