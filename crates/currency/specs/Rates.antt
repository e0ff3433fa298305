-- Document 02, K9: the table of rates.
use Rattle.std.specs.Prelude.{List, [], ◌∷◌, ℕ, ◌+◌, ◌*◌, get_or}
use Rattle.currency.specs.declared.Side.{Side}
use Rattle.currency.specs.declared.Side.TheVariants.{Futures, Short, Long, Spread}

-- document 01: "with a mark for none"
abbrev pub none : ℕ
none = 65535

-- "Rates per 100,000 of notional, futures then short options (000, section 3.3)"
unfoldable pub rates : List ℕ
rates =
    150 ∷ 750  -- EURINR 150, 750
    ∷ 500 ∷ 500  -- EURUSD 500, 500
    ∷ 250 ∷ 750  -- GBPINR 250, 750
    ∷ 500 ∷ 500  -- GBPUSD 500, 500
    ∷ 350 ∷ 750  -- JPYINR 350, 750
    ∷ 500 ∷ 750  -- USDINR 500, 750
    ∷ 500 ∷ 500  -- USDJPY 500, 500
    ∷ 250 ∷ 250  -- interest rate 250, 250
    ∷ 15 ∷ none  -- 91 day T-bill 15, none
    ∷ 500 ∷ none  -- ONMIBOR 500, none
    ∷ []

-- which of a product's two rates a side has: a spread is one of futures, and "option (short or long)" is listed or not by the
-- rate of short ones
abbrev pub column_of : Side → ℕ
column_of Futures = 0
column_of Short = 1
column_of Long = 1
column_of Spread = 0

-- a product's rate at a side
unfoldable pub rate_of : ℕ → Side → ℕ
rate_of product side = get_or rates (2 * product + column_of side) 0
