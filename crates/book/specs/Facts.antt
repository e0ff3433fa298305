-- 'A sound book' as facts, for internal functions and for proofs: no promise of a public call cites it. That it holds exactly
-- where the test `sound_b` does is a law (`sound-exactly` of the crate promises).
use Rattle.std.specs.Prelude.{◌≡◌, true, false, List, ◌⊎◌, ℕ, ◌≤◌, ◌<◌, length, get_or}
use Rattle.rows.specs.declared.Book.{Book}
use Rattle.rows.specs.Rows.{no_row, row_at, mode_at, places, view}
use Rattle.rows.specs.Ranges.{no_amounts}
use Rattle.rows.specs.Facts.{Shaped, NoTM, InRange, NeedsKept}

-- document 02, K11: "rows in a sound book rise by number, all below the next to be given", of so many rows
pub record Numbered (count : ℕ) (numbers : List ℕ) (next : ℕ) : Type 0 where
  -- a value of the type has 256 numbers
  pub wide : length numbers ≡ 256
  -- "number 0 is the CM"
  pub top : get_or numbers 0 0 ≡ 0
  pub rises : (i j : ℕ) → i < j → j < count → get_or numbers i 0 < get_or numbers j 0
  pub below : (i : ℕ) → i < count → get_or numbers i 0 < next
  -- "go up to 65,535"
  pub last : next ≤ 65536
  -- "rows beyond the number are all zero"
  pub beyond : (i : ℕ) → count ≤ i → get_or numbers i 0 ≡ 0

-- all that document 01's list says, but that the CM is covered: document 02, K8, "A sound book no longer has to be covered"
pub record SoundRows (b : Book) : Type 0 where
  -- a value of the type has 256 rows
  pub table : places b ≡ 256
  -- "The number of accounts is 1 to 256": the other bound is in Shaped
  pub most : b.count ≤ 256
  -- "account 0 is the CM and live"
  pub top-live : (row_at b 0).live ≡ true
  -- "rows beyond the number are all zero"
  pub blank : (i : ℕ) → b.count ≤ i → row_at b i ≡ no_row
  -- "Every other account is a TM, a CP, or a client whose TM is a lower-numbered TM row."
  pub shaped : Shaped (view b)
  -- the TM word of an account that is no client is 0
  pub no-tm : NoTM (view b)
  -- "A live client's TM is live."
  pub tm-live : (i : ℕ) → i < b.count → (row_at b i).sort ≡ 2 → (row_at b i).live ≡ true → (row_at b (row_at b i).tm).live ≡ true
  -- "A retired account's amounts are all zero."
  pub retired : (i : ℕ) → i < b.count → (row_at b i).live ≡ false → no_amounts (row_at b i) ≡ true
  -- "Received (each kind), pledged and margin are at most the ceiling. Allocated is at most received in each kind"
  pub ranges : (i : ℕ) → i < b.count → InRange (row_at b i)
  -- document 02, K11
  pub numbered : Numbered b.count b.numbers b.next

-- the account at place i may be in the mode: it is the CM or a live TM
abbrev pub MayBeOn : Book → ℕ → Type 0
MayBeOn b i = (i ≡ 0) ⊎ (((row_at b i).sort ≡ 1) × ((row_at b i).live ≡ true))

-- the same, field by field, and what document 02 says of modes and of kept needs
pub record Sound (b : Book) : Type 0 where
  pub table : places b ≡ 256
  pub most : b.count ≤ 256
  pub top-live : (row_at b 0).live ≡ true
  pub blank : (i : ℕ) → b.count ≤ i → row_at b i ≡ no_row
  pub shaped : Shaped (view b)
  pub no-tm : NoTM (view b)
  pub tm-live : (i : ℕ) → i < b.count → (row_at b i).sort ≡ 2 → (row_at b i).live ≡ true → (row_at b (row_at b i).tm).live ≡ true
  pub retired : (i : ℕ) → i < b.count → (row_at b i).live ≡ false → no_amounts (row_at b i) ≡ true
  pub ranges : (i : ℕ) → i < b.count → InRange (row_at b i)
  pub numbered : Numbered b.count b.numbers b.next
  -- document 02, K2: "In a sound book only a live TM or the CM can be in the mode."
  pub modes : (i : ℕ) → i < 256 → mode_at b i ≡ true → MayBeOn b i
  -- document 02, K3: "each kept need equals the need worked out afresh"
  pub kept : NeedsKept (view b) b.needs
