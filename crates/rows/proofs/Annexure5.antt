-- "Annexure 5's table is a case: TM1 96%, on; TM2 44%, off; CM 69.1%, off.": by the definitions, with the edges of on and off.
use mathlib.Core.Path.{◌≡◌, refl}
use mathlib.Core.Bool.{true, false}
use mathlib.Core.List.{[], ◌∷◌}
use lib.ListN.{get_or, replicate}
use Rattle.sums.specs.Sum.{sum}
use Rattle.sums.specs.Choice.{pick}
use Rattle.sums.specs.Listed.{list_to}
use Rattle.rows.specs.View.{View}
use Rattle.rows.specs.Modes.{own_excess, use_tm, excess_tm, use_cm, use_of, mode_after, look_at}

-- in rupees: the CM is account 0; TM1 1, its clients 2, 3 and 4; TM2 5, its clients 6 and 7
abbrev pub annexure5 : View
annexure5 = record {
  count = 8;
  sort = λ i. get_or (0 ∷ 1 ∷ 2 ∷ 2 ∷ 2 ∷ 1 ∷ 2 ∷ 2 ∷ []) i 0;
  tm = λ i. get_or (0 ∷ 0 ∷ 1 ∷ 1 ∷ 1 ∷ 0 ∷ 5 ∷ 5 ∷ []) i 0;
  collateral = λ i. get_or (1200 ∷ 500 ∷ 800 ∷ 500 ∷ 400 ∷ 500 ∷ 1000 ∷ 1000 ∷ []) i 0;
  margin = λ i. get_or (800 ∷ 400 ∷ 780 ∷ 450 ∷ 380 ∷ 200 ∷ 920 ∷ 880 ∷ []) i 0;
}

-- the clients' excess 60, 0, 20 and 20, 0
pub clients : list_to (own_excess annexure5) 8 ≡ 0 ∷ 0 ∷ 600 ∷ 0 ∷ 200 ∷ 0 ∷ 200 ∷ 0 ∷ []
unfolding list_to
clients = refl

-- TM1 480 of 500, 96%, and 30 in excess; TM2 220 of 500, 44%, and 0; the CM 830 of 1200, 69.1%
pub members : use_tm annexure5 1 ∷ excess_tm annexure5 1 ∷ use_tm annexure5 5 ∷ excess_tm annexure5 5 ∷ use_cm annexure5 ∷ [] ≡ 4800 ∷ 300 ∷ 2200 ∷ 0 ∷ 8300 ∷ []
unfolding use_tm use_cm sum
members = refl

-- whatever the modes before: TM1 on, all others off
pub from-off : list_to (look_at annexure5 (replicate 256 false)) 8 ≡ false ∷ true ∷ false ∷ false ∷ false ∷ false ∷ false ∷ false ∷ []
unfolding list_to use_of use_tm use_cm sum pick mode_after
from-off = refl

pub from_on : list_to (look_at annexure5 (replicate 256 true)) 8 ≡ false ∷ true ∷ false ∷ false ∷ false ∷ false ∷ false ∷ false ∷ []
unfolding list_to use_of use_tm use_cm sum pick mode_after
from_on = refl

-- of a collateral of 100: 90 is on; 89.9 and 85 as before; 84.9 off. Nothing of nothing is off, and a tenth of nothing on.
pub edges : mode_after 900 100 false ∷ mode_after 899 100 false ∷ mode_after 899 100 true ∷ mode_after 850 100 false ∷ mode_after 850 100 true ∷ mode_after 849 100 true
    ∷ mode_after 0 0 true ∷ mode_after 1 0 false ∷ [] ≡ true ∷ false ∷ true ∷ false ∷ true ∷ false ∷ false ∷ true ∷ []
unfolding mode_after pick
edges = refl
