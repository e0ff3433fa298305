-- `table::needs::deemed_under_by` meets its contract.
use mathlib.Core.Path.{subst, sym}
use Prim.Native.Nat.{ℕ}
use lib.ListN.{set}
use Rattle.rows.specs.Rows.{view_by}
use Rattle.rows.specs.DeemedUnder.{DeemedUnder}
use Rattle.rows.specs.Inner.{view_as}
use Rattle.rows.proofs.DeemedUnder.{under_first}
use Rattle.rows.proofs.Tenths.{shaped_in}
use Rattle.table.specs.Facts.{seen_book}
use Rattle.table.proofs.needs.deemed_under_by.Goals as goal

pub client_sums-requires : goal.client_sums-requires
client_sums-requires c = (c.requires.0, c.requires.2)

pub returns : goal.returns
returns c =
    let sums = c in
    let start = sums in
    let a = start.args in
    let v = view_as a.tenths (view_by a.rule (seen_book a.count a.marks.now a.w.now)) in
    let clients = sums.client_sums.new.under in
    subst (λ (all : ℕ). DeemedUnder v (set clients 0 all)) (sym c.members_sum-all.ensures)
    (under_first v (shaped_in a.tenths start.requires.1) start.requires.0.most clients sums.client_sums.ensures)
