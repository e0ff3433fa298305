-- K8: "Pledged shares lose value, and the clearing corporation revises margins overnight; neither can be refused for want of cover."
use Rattle.std.specs.Prelude.{not, List, ◌∷◌, ◌≡◌, ◌≤◌}
use Rattle.sums.specs.Table.{Line, ◌when◌}
use Rattle.rows.specs.declared.Book.{Book}
use Rattle.rows.specs.Rows.{place_of, is_live}
use Rattle.book.specs.Sound.{sound_b}
use Rattle.dayfile.specs.declared.Record.{Record}
use Rattle.rules.specs.Refusals.{before8}
use Rattle.rules.specs.Numbered.{row_named}

-- the records that no want of cover refuses
pub data WhateverTheCover (b : Book) (r : Record) : Type 0 where
  -- "Code 12 (bit 4) sets pledged to a new value,
  sets_pledged : r.code ≡ 12 → WhateverTheCover b r
  -- code 13 (bit 5) sets a margin"
  sets_margin : r.code ≡ 13 → WhateverTheCover b r
  -- "A margin under code 10 that doesn't rise is carried out even while there is a shortfall."
  doesn't_rise : r.code ≡ 10 → r.margin ≤ (row_named b r).margin → WhateverTheCover b r

-- the table's lines before 8: 1 asks that the kept needs are right, not that they are covered, and 3 to 7 ask for no need and no collateral
abbrev pub lines_before8 : Book → Record → List Line
lines_before8 b r = (1 when not (sound_b b)) ∷ before8 (is_live b (place_of b r.account)) b.serial r
