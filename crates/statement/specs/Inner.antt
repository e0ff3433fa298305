-- Only for internal functions: no promise of a public call cites it.
use Rattle.std.specs.Prelude.{List, ℕ, ◌≤◌, leb, length, drop}
use Rattle.sums.specs.Choice.{pick}
use Rattle.sums.specs.Table.{first}
use Rattle.statement.specs.declared.records.Parts.{Parts}
use Rattle.statement.specs.Forms.{four_ceilings}
use Rattle.statement.specs.Statements.{faults_for}

-- no amount is above four ceilings
pub record Fits (p : Parts) : Type 0 where
  pub received : p.received ≤ four_ceilings
  pub retained : p.retained ≤ four_ceilings
  pub placed : p.placed ≤ four_ceilings
  pub held : p.held ≤ four_ceilings
  pub lodged : p.lodged ≤ four_ceilings

-- the refusal of what stands at a place where a client's record is wanted
abbrev pub wanted_refusal : List ℕ → ℕ → ℕ → ℕ → ℕ → ℕ
wanted_refusal s at number received allocated = pick (leb (length s) at) 26 (first (faults_for number received allocated (drop at s)))
