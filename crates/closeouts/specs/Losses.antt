-- What a file of losses says: eight bytes for each account.
use Rattle.std.specs.Prelude.{◌&&◌, List, [], ◌∷◌, ◌++◌, ◌≡◌, ℕ, ◌*◌, ◌/◌, ◌%◌, ◌^◌, ◌<◌, eqb, leb, length, take, drop, get_or}
use Rattle.sums.specs.Choice.{pick}
use Rattle.sums.specs.Listed.{list_to}
use Rattle.numbers.specs.Bytes.{number, bytes_of, Bytes}
use Rattle.closeouts.specs.declared.losses.Losses.{Losses}

-- "all numbers are high byte first": loss i is the number that the eight bytes behind those of i losses say
abbrev pub loss_in : List ℕ → ℕ → ℕ
loss_in file i = number 8 (drop (8 * i) file)

-- how many losses n bytes are: none where n is no multiple of eight, or more than 256 losses take
unfoldable pub loss_count : ℕ → ℕ
loss_count n = pick (eqb (n % 8) 0 && leb n (8 * 256)) (n / 8) 0

-- all of them, in the file's order
unfoldable pub losses_of : List ℕ → List ℕ
losses_of file = list_to (loss_in file) (loss_count (length file))

-- the file that says these losses: "eight bytes for each", one behind the other
unfoldable pub loss_file : List ℕ → List ℕ
loss_file [] = []
loss_file (x ∷ losses) = bytes_of 8 x ++ loss_file losses

-- each loss fits its eight bytes
abbrev pub Fits : List ℕ → Type 0
Fits losses = (i : ℕ) → get_or losses i 0 < 256 ^ 8

-- No contract can say which bytes are read. This one says that there are bytes of which these are the losses.
pub record Came (l : Losses) : Type 0 where
  pub file : List ℕ
  pub bytes : Bytes file
  pub is : take l.count l.list ≡ losses_of file
