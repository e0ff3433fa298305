-- What a record that passes does to the row named, code by code.
use mathlib.Core.Bool.{false}
use mathlib.Core.Path.{◌≡◌}
use Prim.Native.Nat.{◌+◌, ◌-◌}
use Rattle.sums.specs.Choice.{pick}
use Rattle.rows.specs.declared.Row.{Row}
use Rattle.rows.specs.Rows.{with_live, with_received, with_allocated, with_pledged, with_margin, plus_kinds, less_kinds}
use Rattle.dayfile.specs.declared.Record.{Record}
use Rattle.rules.specs.Effects.{amended}

module _ (row : Row) (r : Record) where
  pub by-receive : r.code ≡ 4 → amended row r ≡ with_received row (plus_kinds row.received r.kinds)
  unfolding amended pick
  by-receive e = rw e

  pub by-hand-back : r.code ≡ 5 → amended row r ≡ with_received row (less_kinds row.received r.kinds)
  unfolding amended pick
  by-hand-back e = rw e

  pub by-allocate : r.code ≡ 6 → amended row r ≡ with_allocated row (plus_kinds row.allocated r.kinds)
  unfolding amended pick
  by-allocate e = rw e

  pub by-release : r.code ≡ 7 → amended row r ≡ with_allocated row (less_kinds row.allocated r.kinds)
  unfolding amended pick
  by-release e = rw e

  pub by-pledge : r.code ≡ 8 → amended row r ≡ with_pledged row (row.pledged + r.pledged)
  unfolding amended pick
  by-pledge e = rw e

  pub by-unpledge : r.code ≡ 9 → amended row r ≡ with_pledged row (row.pledged - r.pledged)
  unfolding amended pick
  by-unpledge e = rw e

  pub by-margin : r.code ≡ 10 → amended row r ≡ with_margin row r.margin
  unfolding amended pick
  by-margin e = rw e

  pub by-set-pledged : r.code ≡ 12 → amended row r ≡ with_pledged row r.pledged
  unfolding amended pick
  by-set-pledged e = rw e

  pub by-set-margin : r.code ≡ 13 → amended row r ≡ with_margin row r.margin
  unfolding amended pick
  by-set-margin e = rw e

  pub by-retire : r.code ≡ 11 → amended row r ≡ with_live row false
  unfolding amended pick
  by-retire e = rw e
