-- Only for internal functions.
use Rattle.std.specs.Prelude.{List, ◌≡◌, ℕ, ◌<◌, ◌≤◌, take, Option, MatchOption, Result, Ok, Err, ⊤}
use Rattle.rows.specs.Rows.{place_among}
use Rattle.closeouts.specs.declared.loss_lines.Loss.{Loss}
use Rattle.closeouts.specs.declared.losses.Losses.{Losses}
use Rattle.closeouts.specs.LossLines.{Named, names, fails, named_by}

-- the first of so many places that has the number, where one has it
abbrev pub PlaceAmong : List ℕ → ℕ → ℕ → Option ℕ → Type 0
PlaceAmong numbers count n place = MatchOption place (place_among numbers count n ≡ count) (λ p. (place_among numbers count n ≡ p) × (p < count))

-- the accounts named and their losses, or the line's fault
abbrev pub named_then : Losses → Result ⊤ ℕ → Named
named_then l (Ok _) = names (take l.count l.numbers) (take l.count l.list)
named_then l (Err fault) = fails fault

-- the accounts named and their losses after one line more
pub record Puts (l : Losses) (loss : Loss) (l' : Losses) (p : Result ⊤ ℕ) : Type 0 where
  pub is : named_by (take l.count l.numbers) (take l.count l.list) loss ≡ named_then l' p
  pub few : l'.count ≤ 256
