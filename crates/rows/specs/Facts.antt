-- Sentences of 'A sound book' as facts, for internal functions and for proofs: no promise of a public call cites it.
use Rattle.std.specs.Prelude.{◌≡◌, false, List, ◌⊎◌, ℕ, ◌≤◌, ◌<◌, get_or}
use Rattle.rows.specs.declared.Kinds.{Kinds}
use Rattle.rows.specs.declared.Row.{Row}
use Rattle.rows.specs.View.{View, is_tm}
use Rattle.rows.specs.Rows.{ceiling}
use Rattle.rows.specs.Ranges.{ceilings}
use Rattle.rows.specs.KeptNeeds.{kept_need}

-- "account 0 is the CM"; "Every other account is a TM, a CP, or a client whose TM is a lower-numbered TM row."
pub record Shaped (v : View) : Type 0 where
  pub some : 0 < v.count
  pub top : v.sort 0 ≡ 0
  pub sorts : (i : ℕ) → 0 < i → i < v.count → (v.sort i ≡ 1) ⊎ ((v.sort i ≡ 2) ⊎ (v.sort i ≡ 3))
  pub tms : (i : ℕ) → i < v.count → v.sort i ≡ 2 → (v.tm i < i) × (v.sort (v.tm i) ≡ 1)

-- the TM word of an account that is no client is 0
abbrev pub NoTM : View → Type 0
NoTM v = (i : ℕ) → i < v.count → (v.sort i ≡ 2 → ⊥) → v.tm i ≡ 0

-- no row beyond the number is a TM's
abbrev pub NoneBeyond : View → Type 0
NoneBeyond v = (i : ℕ) → v.count ≤ i → is_tm v i ≡ false

-- document 02, K3: "each kept need equals the need worked out afresh"
abbrev pub NeedsKept : View → List ℕ → Type 0
NeedsKept v needs = (i : ℕ) → i < 256 → get_or needs i 0 ≡ kept_need v i

-- "Received (each kind), pledged and margin are at most the ceiling. Allocated is at most received in each kind."
abbrev pub KindsWithin : Kinds → Kinds → Type 0
KindsWithin a b = (a.cash ≤ b.cash) × (a.deposits ≤ b.deposits) × (a.guarantees ≤ b.guarantees) × (a.securities ≤ b.securities)

pub record InRange (r : Row) : Type 0 where
  pub received : KindsWithin r.received ceilings
  pub allocated : KindsWithin r.allocated r.received
  pub pledged : r.pledged ≤ ceiling
  pub margin : r.margin ≤ ceiling
