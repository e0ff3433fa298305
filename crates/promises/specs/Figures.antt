-- Document 01, 'Figures to hold against it': P1 to P11, P8 as K1 of document 02 has it; K2's case, the table of 004 Annexure 5; K3's list of needs at P4; K7's tenth; K9's charges; K10's six clients; K13's statements; K14's two orders; and how much would have passed beside P6, P9 and K7's tenth. In paise.
-- First the records of each case; then `cases`, the list of what is asked and the figures that the documents give; then what the rules say to it.
use Rattle.std.specs.Prelude.{List, [], ◌∷◌, ◌++◌, map, ℕ, ◌+◌, ◌*◌, ℤ, pos, neg_ℤ, replicate, take, drop}
use Rattle.rows.specs.declared.Book.{Book}
use Rattle.rows.specs.View.{blocked, deemed}
use Rattle.rows.specs.Rows.{no_kinds, mode_at, need_at, view, fresh_book}
use Rattle.rows.specs.Modes.{own_excess, excess_tm, use_of}
use Rattle.book.specs.NeedsListed.{all_needs}
use Rattle.dayfile.specs.declared.Record.{Record}
use Rattle.dayfile.specs.Reading.{size_of}
use Rattle.passing.specs.declared.Largest.{Largest}
use Rattle.passing.specs.Most.{most_of}
use Rattle.desk.specs.Answers.{refusal_in}
use Rattle.desk.specs.Steps.{step_of, next_of}
use Rattle.statement.specs.declared.Finding.{Finding}
use Rattle.statement.specs.Forms.{record_for}
use Rattle.statement.specs.Statements.{statement_finding}
use Rattle.closeout.specs.declared.Closed.{Closed}
use Rattle.closeout.specs.Bound.{beyond}
use Rattle.closeout.specs.Closing.{loss_at, closed_of, room_of}
use Rattle.sums.specs.Sum.{sum, only}
use Rattle.currency.specs.declared.Side.{Side}
use Rattle.currency.specs.declared.Side.TheVariants.{Futures, Short, Spread}
use Rattle.currency.specs.declared.Position.{Position}
use Rattle.currency.specs.declared.Made.{Made}
use Rattle.currency.specs.Margins.{made_of, number_made, margin_made}
use Rattle.exposure.specs.Exposures.{intraday_of}
use Rattle.promises.specs.Sequences.{after_all}
use Rattle.promises.specs.Archivings.{answers_to}

-- Records, by serial, code, account named and amount: an opening (1 a TM, 2 a client), which names the CM or the TM; cash received (4), allocated (6)
-- or released (7); a margin that is set.
abbrev opening : ℕ → ℕ → ℕ → Record
opening serial code account = record { serial = serial; code = code; named = 0; account = account; kinds = no_kinds; pledged = 0; margin = 0 }

abbrev cash : ℕ → ℕ → ℕ → ℕ → Record
cash serial code account amount = record {
  serial = serial;
  code = code;
  named = 1;
  account = account;
  kinds = record { cash = amount; deposits = 0; guarantees = 0; securities = 0 };
  pledged = 0;
  margin = 0;
}

abbrev margin : ℕ → ℕ → ℕ → Record
margin serial account amount = record { serial = serial; code = 10; named = 32; account = account; kinds = no_kinds; pledged = 0; margin = amount }

-- "CM 1000, TM-1 500, its clients A 300 and B 300", "all of it allocated cash": accounts 0, 1, 2, 3
abbrev start : List Record
start =
    opening 0 1 0  -- TM-1
    ∷ opening 1 2 1  -- A
    ∷ opening 2 2 1  -- B
    ∷ cash 3 4 0 100000  -- CM 1000: received
    ∷ cash 4 6 0 100000  -- and allocated
    ∷ cash 5 4 1 50000  -- TM-1 500
    ∷ cash 6 6 1 50000
    ∷ cash 7 4 2 30000  -- A 300
    ∷ cash 8 6 2 30000
    ∷ cash 9 4 3 30000  -- B 300
    ∷ cash 10 6 3 30000
    ∷ []

-- "P1 B's margin 100"; "P2 then A's 600"; "P3 then B's 600"; "P4 then B's 900"; "P5 then B's 1500"
abbrev at_p1 : List Record
at_p1 = start ++ (margin 11 3 10000 ∷ [])

abbrev at_p2 : List Record
at_p2 = at_p1 ++ (margin 12 2 60000 ∷ [])

abbrev at_p3 : List Record
at_p3 = at_p2 ++ (margin 13 3 60000 ∷ [])

abbrev at_p4 : List Record
at_p4 = at_p3 ++ (margin 14 3 90000 ∷ [])

abbrev at_p5 : List Record
at_p5 = at_p4 ++ (margin 15 3 150000 ∷ [])

-- received and allocated in cash, so that it is collateral: two records, from this serial on
abbrev collateral_of : ℕ → ℕ → ℕ → List Record
collateral_of serial account amount = cash serial 4 account amount ∷ cash (serial + 1) 6 account amount ∷ []

-- 004 Annexure 5: CM-1 is account 0; TM-1 1, its Client-1 to Client-3 2, 3 and 4; TM-2 5, its Client-4 and Client-5 6 and 7. First the accounts,
-- then the column Collateral, then the column Margin, of which TM-1's is m.
abbrev annexure5 : ℕ → List Record
annexure5 m =
    (opening 0 1 0 ∷ opening 1 2 1 ∷ opening 2 2 1 ∷ opening 3 2 1 ∷ opening 4 1 0 ∷ opening 5 2 5 ∷ opening 6 2 5 ∷ [])
    ++ (collateral_of 7 0 120000
    ++ (collateral_of 9 1 50000
    ++ (collateral_of 11 2 80000
    ++ (collateral_of 13 3 50000
    ++ (collateral_of 15 4 40000
    ++ (collateral_of 17 5 50000
    ++ (collateral_of 19 6 100000
    ++ (collateral_of 21 7 100000
    ++ (margin 23 0 80000
    ∷ margin 24 1 m
    ∷ margin 25 2 78000
    ∷ margin 26 3 45000
    ∷ margin 27 4 38000
    ∷ margin 28 5 20000
    ∷ margin 29 6 92000
    ∷ margin 30 7 88000
    ∷ [])))))))))

-- "Annexure 5's table is a case": there TM-1's margin is 400
abbrev at_a5 : List Record
at_a5 = annexure5 40000

-- "depends on history": TM-1's margin is 350 after that, and is 350 from the first
abbrev at_a5_less : List Record
at_a5_less = at_a5 ++ (margin 31 1 35000 ∷ [])

abbrev at_a5_never : List Record
at_a5_never = annexure5 35000

-- government securities of this face value received (4), allocated (6) or released (7)
abbrev securities : ℕ → ℕ → ℕ → ℕ → Record
securities serial code account amount = record {
  serial = serial;
  code = code;
  named = 8;
  account = account;
  kinds = record { cash = 0; deposits = 0; guarantees = 0; securities = amount };
  pledged = 0;
  margin = 0;
}

-- K7: so many paise of them are all that the client of a TM has, accounts 2 and 1
abbrev at_k7 : ℕ → List Record
at_k7 amount = opening 0 1 0 ∷ opening 1 2 1 ∷ securities 2 4 2 amount ∷ securities 3 6 2 amount ∷ []

-- and 9 are needed
abbrev at_k7_needed : ℕ → List Record
at_k7_needed amount = at_k7 amount ++ (margin 4 2 9 ∷ [])

-- K13: A has received a paisa that isn't allocated
abbrev at_k13 : List Record
at_k13 = start ++ (cash 11 4 2 1 ∷ [])

-- the record of a client, by its account and five amounts
abbrev of_client : ℕ → ℕ → ℕ → ℕ → ℕ → ℕ → List ℕ
of_client account received retained placed held lodged =
    record_for account (record { received = received; retained = retained; placed = placed; held = held; lodged = lodged })

-- a record that is right for A, with all that is allocated placed with the corporation, and one that is right for B
abbrev right_for_a : List ℕ
right_for_a = of_client 2 30001 0 30001 1 30000

abbrev right_for_b : List ℕ
right_for_b = of_client 3 30000 10000 20000 20000 0

-- K14, "one order carries all out and the other gives 13": the CM has received 300 and allocated none of it, TM-1 has a client, account 2. One clerk
-- allocates for the CM, the other sets the client's margin.
abbrev at_k14 : List Record
at_k14 = opening 0 1 0 ∷ opening 1 2 1 ∷ cash 2 4 0 30000 ∷ []

abbrev pub one_order : List Record
one_order = cash 3 6 0 30000 ∷ margin 4 2 30000 ∷ []

abbrev pub other_order : List Record
other_order = margin 3 2 30000 ∷ cash 4 6 0 30000 ∷ []

-- "K2's modes are excepted.": the CM has 1000, TM-1 has 100 and has received 105, its client nothing. The client's margin of 90 brings the TM to 90%, and at 86% it stays
-- on; with the TM's 5 more allocated first 90% is never reached.
abbrev at_k14_warned : List Record
at_k14_warned = (opening 0 1 0 ∷ opening 1 2 1 ∷ []) ++ (collateral_of 2 0 100000 ++ (cash 4 4 1 10500 ∷ cash 5 6 1 10000 ∷ []))

abbrev pub margin_first : List Record
margin_first = margin 6 2 9000 ∷ cash 7 6 1 500 ∷ []

abbrev pub allocated_first : List Record
allocated_first = cash 6 6 1 500 ∷ margin 7 2 9000 ∷ []

-- code 4, second mark byte 0xFF, serial 0, and zeros: n + 2 bytes
abbrev full : ℕ → List ℕ
full n = 4 ∷ 255 ∷ replicate n 0

-- a position by product, side and notional: products are numbered in the order in which K9 lists them
abbrev position : ℕ → Side → ℕ → Position
position product side notional = record { product = product; side = side; notional = notional }

-- a figure below 0, by its size
abbrev below : ℕ → ℤ
below n = neg_ℤ (pos n)

-- What is asked, after records that were carried out from a fresh book:
pub data Question : Type 0 where
  -- what is blocked of CM, TM-1, A and B, and what each is deemed
  blocked_after : List Record → Question
  deemed_after : List Record → Question
  -- the refusal of one record more, 0 where it is carried out
  refusal_after : List Record → Record → Question
  -- K14: the refusals of records more, one after the other
  refusals_after : List Record → List Record → Question
  -- a close-out with these losses of the four: its refusal, or 0; the four amounts of A, and of B; the total left uncovered; and the bound, the losses beyond margins
  closed_after : List Record → List ℕ → Question
  -- how many bytes a record is long, by its second mark byte
  bytes_long : ℕ → Question
  -- the refusal of what stands at the start of these bytes, at a fresh book
  refusal_read : List ℕ → Question
  -- K2, in tenths of a paisa: the excess of Annexure 5's five clients, and of its two TMs
  excess_after : List Record → Question
  -- K2, of a TM or the CM: its use, ten collaterals, and its mode, 1 for on
  used_after : List Record → ℕ → Question
  -- K3: the list of needs, and what is kept of them at the four accounts' places
  needs_after : List Record → Question
  -- K7: an account's collateral
  collateral_after : List Record → ℕ → Question
  -- K9: with no initial margin, the refusal or 0 of one position and its margin
  margin_of : Position → Question
  -- K9: the same of a product's futures and of its short options, on a notional of 100,000
  rates_of : ℕ → Question
  -- K10: the refusal or 0 of a client's premium and loss, and its amount
  exposure_to : ℤ → ℤ → Question
  -- K13: what a check finds of TM-1's statement: the refusal or 0, the record at fault, and the account wanted there
  statement_after : List Record → List ℕ → Question
  -- how much would have passed of a record, whose serial and amounts are not looked at: the refusal or 0, and the amount
  most_after : List Record → Record → Question

-- what is asked, and the figures that a document gives for it
pub record Case : Type 0 where
  pub asked : Question
  pub figures : List ℕ

infix 20 ◌gives◌
abbrev ◌gives◌ : Question → List ℕ → Case
q gives l = record { asked = q; figures = l }

-- P1 to P11, Annexure 5, K3, K7, K9, K10, K13, K14 and how much would have passed, in one list
unfoldable pub cases : List Case
cases =
    (blocked_after at_p1 gives (0 ∷ 0 ∷ 0 ∷ 10000 ∷ []))  -- P1: B blocked 100, TM-1 0, CM 0
    ∷ (blocked_after at_p2 gives (0 ∷ 30000 ∷ 30000 ∷ 10000 ∷ []))  -- P2: A 300, TM-1 300, CM 0
    ∷ (blocked_after at_p3 gives (10000 ∷ 50000 ∷ 30000 ∷ 30000 ∷ []))  -- P3: TM-1 500, CM 100
    ∷ (blocked_after at_p4 gives (40000 ∷ 50000 ∷ 30000 ∷ 30000 ∷ []))  -- P4: TM-1 500, CM 400;
    ∷ (deemed_after at_p4 gives (0 ∷ 40000 ∷ 30000 ∷ 60000 ∷ []))  -- P4: A deemed 300, B 600, TM-1 400
    ∷ (refusal_after at_p4 (margin 15 3 150000) gives (0 ∷ []))  -- P5: carried out,
    ∷ (blocked_after at_p5 gives (100000 ∷ 50000 ∷ 30000 ∷ 30000 ∷ []))  -- P5: CM blocked 1000
    ∷ (refusal_after at_p4 (margin 15 3 150001) gives (13 ∷ []))  -- P6: B's 1500.01 instead: 13
    -- P7: losses A 600, B 900: not refused; A 300, 300, 0, 0; B 300, 200, 400, 0; nothing uncovered, and no loss beyond its margin
    ∷ (closed_after at_p4 (0 ∷ 0 ∷ 60000 ∷ 90000 ∷ []) gives (0 ∷ 30000 ∷ 30000 ∷ 0 ∷ 0 ∷ 30000 ∷ 20000 ∷ 40000 ∷ 0 ∷ 0 ∷ 0 ∷ []))
    -- P8: losses A 1200, B 1200: not refused; A 300, 300, 600, 0; B 300, 200, 400, 300; uncovered 300; the bound is 600 + 300 = 900
    ∷ (closed_after at_p4 (0 ∷ 0 ∷ 120000 ∷ 120000 ∷ []) gives (0 ∷ 30000 ∷ 30000 ∷ 60000 ∷ 0 ∷ 30000 ∷ 20000 ∷ 40000 ∷ 30000 ∷ 30000 ∷ 90000 ∷ []))
    ∷ (refusal_after at_p1 (cash 12 7 3 20000) gives (0 ∷ []))  -- P9: B may release 200
    ∷ (refusal_after at_p1 (cash 12 7 3 20001) gives (12 ∷ []))  -- P9: and not 200.01 (12)
    ∷ (refusal_after at_p1 (margin 12 2 0) gives (0 ∷ []))  -- P10: margin 0 where it is 0 already: carried out
    ∷ (bytes_long 255 gives (70 ∷ []))  -- P11: second mark byte 0xFF: 70 bytes long;
    ∷ (refusal_read (full 67) gives (2 ∷ []))  -- P11: 69 bytes give 2,
    ∷ (refusal_read (full 68) gives (5 ∷ []))  -- P11: 70 with the right serial and code 4 give 5
    ∷ (excess_after at_a5 gives (60000 ∷ 0 ∷ 20000 ∷ 20000 ∷ 0 ∷ 30000 ∷ 0 ∷ []))  -- Annexure 5: CliMrgn>90% is 60, 0, 20, 20, 0; TMMrgn>90% is 30, 0
    ∷ (used_after at_a5 1 gives (480000 ∷ 500000 ∷ 1 ∷ []))  -- Annexure 5: TM1 480 of 500, 96%, on
    ∷ (used_after at_a5 5 gives (220000 ∷ 500000 ∷ 0 ∷ []))  -- Annexure 5: TM2 220 of 500, 44%, off
    ∷ (used_after at_a5 0 gives (830000 ∷ 1200000 ∷ 0 ∷ []))  -- Annexure 5: CM 830 of 1200, 69.1%, off
    ∷ (used_after at_a5_less 1 gives (430000 ∷ 500000 ∷ 1 ∷ []))  -- K2: then TM1 430 of 500, 86%, still on
    ∷ (used_after at_a5_never 1 gives (430000 ∷ 500000 ∷ 0 ∷ []))  -- K2: TM1 430 of 500 from the first, 86%, off
    ∷ (needs_after at_p4 gives (40000 ∷ 90000 ∷ 60000 ∷ 90000 ∷ 40000 ∷ 90000 ∷ 0 ∷ 0 ∷ []))  -- K3: 400, 900, 600, 900; kept are the CM's and the TM's
    ∷ (collateral_after (at_k7 1) 2 gives (0 ∷ []))  -- K7: "One paisa therefore counts as nothing."
    ∷ (collateral_after (at_k7 9) 2 gives (8 ∷ []))
    ∷ (collateral_after (at_k7 10) 2 gives (9 ∷ []))
    ∷ (collateral_after (at_k7 11) 2 gives (9 ∷ []))
    ∷ (collateral_after (at_k7 19) 2 gives (17 ∷ []))
    ∷ (collateral_after (at_k7 20) 2 gives (18 ∷ []))
    ∷ (collateral_after (at_k7 21) 2 gives (18 ∷ []))
    ∷ (refusal_after (at_k7_needed 11) (securities 5 7 2 1) gives (0 ∷ []))  -- K7: 11 to 10 paise, with nothing free
    ∷ (refusal_after (at_k7_needed 10) (securities 5 7 2 1) gives (12 ∷ []))  -- K7: 10 to 9
    ∷ (margin_of (position 5 Futures 10000001) gives (0 ∷ 50001 ∷ []))  -- K9: USDINR futures of 10,000,001 paise give 50,001
    ∷ (margin_of (position 0 Spread 2000) gives (0 ∷ 1 ∷ []))  -- K9: rounded once, an EURINR spread of 2,000 gives 1
    ∷ (rates_of 0 gives (0 ∷ 150 ∷ 0 ∷ 750 ∷ []))  -- K9: EURINR 150, 750
    ∷ (rates_of 1 gives (0 ∷ 500 ∷ 0 ∷ 500 ∷ []))  -- EURUSD 500, 500
    ∷ (rates_of 2 gives (0 ∷ 250 ∷ 0 ∷ 750 ∷ []))  -- GBPINR 250, 750
    ∷ (rates_of 3 gives (0 ∷ 500 ∷ 0 ∷ 500 ∷ []))  -- GBPUSD 500, 500
    ∷ (rates_of 4 gives (0 ∷ 350 ∷ 0 ∷ 750 ∷ []))  -- JPYINR 350, 750
    ∷ (rates_of 5 gives (0 ∷ 500 ∷ 0 ∷ 750 ∷ []))  -- USDINR 500, 750
    ∷ (rates_of 6 gives (0 ∷ 500 ∷ 0 ∷ 500 ∷ []))  -- USDJPY 500, 500
    ∷ (rates_of 7 gives (0 ∷ 250 ∷ 0 ∷ 250 ∷ []))  -- interest rate 250, 250
    ∷ (rates_of 8 gives (0 ∷ 15 ∷ 19 ∷ 0 ∷ []))  -- 91 day T-bill 15, none
    ∷ (rates_of 9 gives (0 ∷ 500 ∷ 19 ∷ 0 ∷ []))  -- ONMIBOR 500, none
    ∷ (exposure_to (below 20) (below 90) gives (0 ∷ 0 ∷ []))  -- K10: -20, -90 gives 0
    ∷ (exposure_to (pos 50) (pos 30) gives (0 ∷ 80 ∷ []))  -- 50, 30 gives 80
    ∷ (exposure_to (below 30) (pos 80) gives (0 ∷ 50 ∷ []))  -- -30, 80 gives 50
    ∷ (exposure_to (pos 30) (below 80) gives (0 ∷ 0 ∷ []))  -- 30, -80 gives 0
    ∷ (exposure_to (below 100) (pos 80) gives (0 ∷ 0 ∷ []))  -- -100, 80 gives 0
    ∷ (exposure_to (pos 100) (below 80) gives (0 ∷ 20 ∷ []))  -- 100, -80 gives 20
    ∷ (statement_after at_k13 (right_for_a ++ right_for_b) gives (0 ∷ 0 ∷ 0 ∷ []))  -- K13: accepted
    ∷ (statement_after at_k13 (right_for_a ++ (right_for_b ++ (1 ∷ []))) gives (24 ∷ 2 ∷ 0 ∷ []))  -- 24: a byte more is a record cut
    ∷ (statement_after at_k13 (1 ∷ 32 ∷ 0 ∷ 2 ∷ replicate 8 1) gives (24 ∷ 0 ∷ 2 ∷ []))  -- 24: bit 5 is no amount
    ∷ (statement_after at_k13 (1 ∷ 1 ∷ 0 ∷ 2 ∷ replicate 8 0) gives (25 ∷ 0 ∷ 2 ∷ []))  -- 25: an amount that is named and 0,
    ∷ (statement_after at_k13 (right_for_a ++ of_client 3 40000000000001 0 0 0 0) gives (25 ∷ 1 ∷ 3 ∷ []))  -- and one a paisa above four ceilings
    ∷ (statement_after at_k13 right_for_a gives (26 ∷ 1 ∷ 3 ∷ []))  -- 26: B still wanting
    ∷ (statement_after at_k13 (right_for_b ++ right_for_a) gives (26 ∷ 0 ∷ 2 ∷ []))  -- 26: A is the next live client
    ∷ (statement_after at_k13 (right_for_a ++ (right_for_b ++ of_client 4 1 1 0 0 0)) gives (26 ∷ 2 ∷ 0 ∷ []))  -- 26: a record too many
    ∷ (statement_after at_k13 (right_for_a ++ of_client 3 30000 10001 20000 20000 0) gives (27 ∷ 1 ∷ 3 ∷ []))  -- 27: a paisa too much in the first sum,
    ∷ (statement_after at_k13 (right_for_a ++ of_client 3 30000 10000 20000 19999 0) gives (27 ∷ 1 ∷ 3 ∷ []))  -- one too few in the second
    ∷ (statement_after at_k13 (of_client 2 30000 0 30000 0 30000 ++ right_for_b) gives (28 ∷ 0 ∷ 2 ∷ []))  -- 28: A's last paisa isn't in it
    ∷ (statement_after at_k13 (of_client 2 30001 0 30001 0 30001 ++ right_for_b) gives (29 ∷ 0 ∷ 2 ∷ []))  -- 29: a paisa placed that isn't allocated
    ∷ (refusals_after at_k14 one_order gives (0 ∷ 0 ∷ []))  -- K14: one order carries all out
    ∷ (refusals_after at_k14 other_order gives (13 ∷ 0 ∷ []))  -- and the other gives 13
    ∷ (refusals_after at_k14_warned margin_first gives (0 ∷ 0 ∷ []))  -- K14: both orders are carried out,
    ∷ (refusals_after at_k14_warned allocated_first gives (0 ∷ 0 ∷ []))
    ∷ (used_after (at_k14_warned ++ margin_first) 1 gives (90000 ∷ 105000 ∷ 1 ∷ []))  -- and the TM's mode is on after the first
    ∷ (used_after (at_k14_warned ++ allocated_first) 1 gives (90000 ∷ 105000 ∷ 0 ∷ []))  -- and off after the second
    ∷ (most_after at_p4 (margin 0 3 0) gives (0 ∷ 150000 ∷ []))  -- P5, P6: B's margin up to 1500.00
    ∷ (most_after at_p4 (margin 0 2 0) gives (0 ∷ 120000 ∷ []))  -- A's up to 1200.00
    ∷ (most_after at_p4 (margin 0 1 0) gives (0 ∷ 60000 ∷ []))  -- TM-1's up to 600.00
    ∷ (most_after at_p1 (cash 0 7 3 0) gives (0 ∷ 20000 ∷ []))  -- P9: B may release 200.00
    ∷ (most_after (at_k7_needed 11) (securities 0 7 2 0) gives (0 ∷ 1 ∷ []))  -- K7: nothing is free, and a paisa may go: 10 count for as much as 11
    ∷ (most_after (at_k7_needed 10) (securities 0 7 2 0) gives (12 ∷ 0 ∷ []))  -- none of 10
    ∷ (most_after (at_k7_needed 21) (securities 0 7 2 0) gives (0 ∷ 11 ∷ []))  -- 9 are free: 11 may go, and leave 10, which count for 9
    ∷ (most_after (at_k7_needed 21) (cash 0 7 2 0) gives (11 ∷ 0 ∷ []))  -- no cash is allocated
    ∷ (most_after at_p1 (opening 0 1 0) gives (4 ∷ 0 ∷ []))  -- an opening has no amount
    ∷ (most_after at_p1 (cash 0 8 3 0) gives (5 ∷ 0 ∷ []))  -- cash isn't pledged
    ∷ (most_after at_p1 (cash 0 7 4 0) gives (7 ∷ 0 ∷ []))  -- number 4 was never given
    ∷ []

-- What the rules say to a question. Of the book after the records, f of CM, TM-1, A and B,
abbrev pub each : (ℕ → ℕ) → List ℕ
each f = f 0 ∷ f 1 ∷ f 2 ∷ f 3 ∷ []

-- the excess of Annexure 5's clients and TMs,
abbrev pub excess_in : Book → List ℕ
excess_in b =
    own_excess (view b) 2
    ∷ own_excess (view b) 3
    ∷ own_excess (view b) 4
    ∷ own_excess (view b) 6
    ∷ own_excess (view b) 7
    ∷ excess_tm (view b) 1
    ∷ excess_tm (view b) 5
    ∷ []

-- and account i's use;
abbrev pub used_in : Book → ℕ → List ℕ
used_in b i = use_of (view b) i ∷ 10 * (view b).collateral i ∷ only (mode_at b i) 1 ∷ []

-- of a close-out its answer and, out of the room after it, what A and B have there, accounts 2 and 3, four amounts each.
abbrev pub closed_in : Book → List ℕ → Closed → List ℕ → List ℕ
closed_in b losses closed room =
    closed.refusal ∷ (take 8 (drop 8 room) ++ (closed.total ∷ sum b.count (beyond (view b) (loss_at losses)) ∷ []))

-- the room is lent with 16 zeros
abbrev pub zeros : List ℕ
zeros = replicate 16 0

-- of what is made for a client the refusal or 0 and the margin
abbrev made_in : Made → List ℕ
made_in m = number_made m ∷ margin_made m ∷ []

abbrev pub margin_in : Position → List ℕ
margin_in p = made_in (made_of 0 0 0 (p ∷ []) 1)

abbrev pub rates_in : ℕ → List ℕ
rates_in product = margin_in (position product Futures 100000) ++ margin_in (position product Short 100000)

abbrev pub exposure_in : ℤ → ℤ → List ℕ
exposure_in premium loss = (intraday_of premium loss).refusal ∷ (intraday_of premium loss).amount ∷ []

-- of what a check finds all three
abbrev pub finding_in : Finding → List ℕ
finding_in f = f.refusal ∷ f.index ∷ f.wanted ∷ []

-- of how much would have passed both
abbrev pub most_in : Largest → List ℕ
most_in m = m.refusal ∷ m.amount ∷ []

-- the book after records from a fresh book
abbrev after : List Record → Book
after rs = after_all fresh_book rs

unfoldable pub by_the_rules : Question → List ℕ
by_the_rules (blocked_after rs) = each (blocked (view (after rs)))
by_the_rules (deemed_after rs) = each (deemed (view (after rs)))
by_the_rules (refusal_after rs r) = refusal_in (step_of (after rs) r).answer.outcome ∷ []
by_the_rules (refusals_after rs qs) = map (λ a. refusal_in a.outcome) (answers_to (after rs) qs)
by_the_rules (closed_after rs losses) = closed_in (after rs) losses (closed_of (after rs) losses zeros) (room_of (after rs) losses zeros)
by_the_rules (bytes_long named) = size_of named ∷ []
by_the_rules (refusal_read s) = refusal_in (next_of fresh_book s 0).answer.outcome ∷ []
by_the_rules (excess_after rs) = excess_in (after rs)
by_the_rules (used_after rs i) = used_in (after rs) i
by_the_rules (needs_after rs) = all_needs (after rs) ++ each (need_at (after rs))
by_the_rules (collateral_after rs i) = (view (after rs)).collateral i ∷ []
by_the_rules (margin_of p) = margin_in p
by_the_rules (rates_of product) = rates_in product
by_the_rules (exposure_to premium loss) = exposure_in premium loss
by_the_rules (statement_after rs s) = finding_in (statement_finding (after rs) 1 s)
by_the_rules (most_after rs r) = most_in (most_of (after rs) r)

-- The one claim (`promises.Claim.figures`) is that these two lists are the same: what the rules say to each question, and the documents' figures.
unfoldable pub cases_by_the_rules : List (List ℕ)
cases_by_the_rules = map (λ c. by_the_rules c.asked) cases

unfoldable pub expected : List (List ℕ)
expected = map (λ c. c.figures) cases
