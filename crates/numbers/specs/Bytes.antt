-- "all numbers are high byte first"
use Rattle.std.specs.Prelude.{ℕ, zero, suc, ◌+◌, ◌*◌, ◌/◌, ◌%◌, ◌^◌, ◌<◌, List, [], ◌∷◌, get_or}

-- every element is a byte
abbrev pub Bytes : List ℕ → Type 0
Bytes l = (i : ℕ) → get_or l i 0 < 256

-- the number that l's first k bytes say
unfoldable pub number : ℕ → List ℕ → ℕ
number zero l = 0
number (suc k) [] = 0
number (suc k) (b ∷ l) = b * 256 ^ k + number k l

-- the k bytes of x
unfoldable pub bytes_of : ℕ → ℕ → List ℕ
bytes_of zero x = []
bytes_of (suc k) x = x / 256 ^ k % 256 ∷ bytes_of k x
