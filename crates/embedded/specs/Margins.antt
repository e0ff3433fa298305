-- include/loft.h: the record that sets an account's margin.
use Rattle.std.specs.Prelude.{Bool, ◌&&◌, ◌||◌, List, ℕ, eqb, leb, ℤ, length, get_or}
use Rattle.sums.specs.Choice.{pick}
use Rattle.sums.specs.Listed.{list_to}
use Rattle.sums.specs.Sum.{all}
use Rattle.dayfile.specs.Written.{written_of}
use Rattle.currency.specs.declared.Side.{Side}
use Rattle.currency.specs.declared.Side.TheVariants.{Futures, Short, Long, Spread}
use Rattle.currency.specs.declared.Position.{Position}
use Rattle.currency.specs.declared.Made.{Made}
use Rattle.currency.specs.declared.Made.TheVariants.{Given, Refused}
use Rattle.currency.specs.Margins.{made_of, number_made}
use Rattle.exposure.specs.Joined.{joined_of}
use Rattle.exposure.specs.Lists.{figure_at}

-- "its side (0 futures, 1 short, 2 long, 3 spread)"
abbrev pub side_of : ℕ → Side
side_of n = pick (eqb n 0) Futures (pick (eqb n 1) Short (pick (eqb n 2) Long Spread))

-- "Of each position its product (0 to 9), its side .. and its notional": position i
abbrev pub position_at : List ℕ → List ℕ → List ℕ → ℕ → Position
position_at products sides notionals i = record { product = get_or products i 0; side = side_of (get_or sides i 0); notional = get_or notionals i 0 }

-- "three lists of one length, at most 64"; "15 .. a side is above 3"
abbrev pub are_positions : List ℕ → List ℕ → List ℕ → Bool
are_positions products sides notionals =
    eqb (length sides) (length products)
    && (eqb (length notionals) (length products) && (leb (length products) 64 && all (length sides) (λ i. leb (get_or sides i 0) 3)))

-- "`figures` are none, two (premium, loss) or four (exercise and settlement behind them)"
abbrev pub are_many : ℕ → Bool
are_many n = eqb n 0 || eqb n 2 || eqb n 4

-- "LOFT_RECORD bytes"
abbrev pub is_room : List ℕ → Bool
is_room room = eqb (length room) 14

-- every list is as long as it says
abbrev pub fits : List ℕ → List ℕ → List ℕ → List ℤ → List ℕ → Bool
fits products sides notionals figures room = are_positions products sides notionals && (are_many (length figures) && is_room room)

-- a record's bytes "as in a day file"; with a refusal the room stays
abbrev pub room_made : Made → List ℕ → List ℕ
room_made (Given r) room = written_of r
room_made (Refused n) room = room

module _ (serial account initial : ℕ) (products sides notionals : List ℕ) (figures : List ℤ) where
  -- with no figures K9's record; otherwise K10's, of which a figure that isn't there is 0
  unfoldable pub made_in : Made
  made_in =
      let positions = list_to (position_at products sides notionals) 64 in
      pick (eqb (length figures) 0) (made_of serial account initial positions (length products))
      (joined_of serial account initial positions (length products) (figure_at figures 0) (figure_at figures 1) (figure_at figures 2) (figure_at figures 3))

  -- "Refuses 15, 18 to 22."
  unfoldable pub margin_refusal : List ℕ → ℕ
  margin_refusal room = pick (fits products sides notionals figures room) (number_made made_in) 15

  unfoldable pub margin_room : List ℕ → List ℕ
  margin_room room = pick (fits products sides notionals figures room) (room_made made_in room) room
