-- Only for internal functions: no promise of a public call cites it.
use Rattle.std.specs.Prelude.{Bool, not, ℕ, ◌+◌, ◌≤◌, ltb, eqb}
use Rattle.sums.specs.Sum.{only}
use Rattle.rows.specs.declared.Account.{Account}
use Rattle.rows.specs.View.{blocked_of}
use Rattle.rows.specs.Rows.{ceiling}
use Rattle.rows.specs.Facts.{KindsWithin}
use Rattle.rows.specs.Ranges.{ceilings}
use Rattle.rows.specs.DeemedUnder.{at_margin, deemed_under_cm}
use Rattle.dayfile.specs.declared.Record.{Record}
use Rattle.rules.specs.declared.Beside.{Beside}

-- no amount of the record passes the ceiling
pub record AmountsIn (r : Record) : Type 0 where
  pub kinds : KindsWithin r.kinds ceilings
  pub pledged : r.pledged ≤ ceiling
  pub margin : r.margin ≤ ceiling

-- the CM's margin where the account gets the margin m
abbrev pub top_margin : Account → Account → ℕ → ℕ
top_margin a top m = only (eqb a.sort 0) m + only (not (eqb a.sort 0)) top.margin

-- what stands beside the row, by the mode, the collateral that a release or unpledge would leave, the account named, the one that it names as
-- its TM, the CM, and what is deemed under each of them
abbrev pub beside_by : Bool → ℕ → Account → ℕ → Account → ℕ → Account → ℕ → Bool → Record → Beside
beside_by mode left a under tm clients top all live_client r = record {
  mode = mode;
  below = ltb left (blocked_of (a.margin + under) a.collateral);
  passes = ltb top.collateral
      (top_margin a top (blocked_of r.margin ceiling) + deemed_under_cm a (at_margin a (blocked_of r.margin ceiling)) under tm clients all);
  client = live_client;
}
