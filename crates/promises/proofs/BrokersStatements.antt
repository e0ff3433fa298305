-- K13, checking brokers' daily collateral statements: what `statement::check` finds, by its promise `statement_finding`, both ways. `SoWritten` says in the paper's words what is right;
-- `AtFault` says which record is the first at fault, by the lines 24 to 29 (`faults_for`).
use mathlib.Core.List.{List, map}
use mathlib.Core.Path.{◌≡◌}
use Prim.Native.Nat.{ℕ, ◌≤◌, ◌<◌}
use lib.ListN.{length, get_or}
use Rattle.sums.specs.Table.{Given}
use Rattle.numbers.specs.Bytes.{Bytes}
use Rattle.rows.specs.declared.Book.{Book}
use Rattle.rows.specs.Rows.{number_at, place_of}
use Rattle.book.specs.Facts.{Sound}
use Rattle.statement.specs.declared.Finding.{Finding}
use Rattle.statement.specs.Statements.{live_clients, asked_refusals, found, statement_finding}
use Rattle.statement.specs.ByTheRules.{OfTM, SoWritten, AtFault}
use Rattle.statement.proofs.Accepted.{accepted-is-so-written, so-written-passes}
use Rattle.statement.proofs.Faults.{fault-numbers, fault-wanted, asked-is-refused, refused-is-asked, refused-is-at-fault, at-fault-is-refused}
use Rattle.statement.proofs.Rising.{numbers-rise, above-0}

-- Of any book, any number and any bytes:
module _ (b : Book) (tm : ℕ) (s : List ℕ) where
  -- "A statement is accepted exactly when it is so written": bytes that are accepted are, for a live TM of a sound book, a record for each of its live clients, with five amounts that are right for it, and nothing else.
  pub what-is-accepted-is-so-written : Bytes s → (statement_finding b tm s).refusal ≡ 0 → OfTM b tm × SoWritten b (live_clients b (place_of b tm)) s
  what-is-accepted-is-so-written = accepted-is-so-written b tm s

  -- "Any statement written by these rules passes."
  pub what-is-so-written-is-accepted : OfTM b tm → SoWritten b (live_clients b (place_of b tm)) s → statement_finding b tm s ≡ found 0 0 0
  what-is-so-written-is-accepted = so-written-passes b tm s

  -- "Refusals: 1, 7 and 8 (not a TM) first": each exactly when its test holds and no earlier one does; no record is named then.
  pub one-seven-and-eight-first :
      ((n : ℕ) → Given n (asked_refusals b tm) → statement_finding b tm s ≡ found n 0 0)
      × (0 < (statement_finding b tm s).refusal → (statement_finding b tm s).refusal < 24 → Given (statement_finding b tm s).refusal (asked_refusals b tm))
  one-seven-and-eight-first = (λ n g. asked-is-refused b tm s g, refused-is-asked b tm s)

  -- "then by first record at fault": bytes are given 24 to 29 with a place exactly when the records before it are so written and the one there is the first at fault.
  pub twenty-four-to-twenty-nine-by-first-record-at-fault :
      (Bytes s → 24 ≤ (statement_finding b tm s).refusal → OfTM b tm × AtFault b 0 (live_clients b (place_of b tm)) s (statement_finding b tm s))
      × ((f : Finding) → OfTM b tm → AtFault b 0 (live_clients b (place_of b tm)) s f → statement_finding b tm s ≡ f)
  twenty-four-to-twenty-nine-by-first-record-at-fault = (refused-is-at-fault b tm s, λ f o w. at-fault-is-refused b tm s o w)

-- No other number is given for a record.
pub no-number-but-24-to-29 : (b : Book) {k : ℕ} {is l : List ℕ} {f : Finding} → AtFault b k is l f → (24 ≤ f.refusal) × (f.refusal ≤ 29)
no-number-but-24-to-29 = fault-numbers

-- The account wanted at a record's place is the client's whose turn it is; behind the last one's record it is 0, and none is.
pub the-account-wanted-there : (b : Book) {is l : List ℕ} {f : Finding} → AtFault b 0 is l f → (f.index ≤ length is) × (f.wanted ≡ get_or (map (number_at b) is) f.index 0)
the-account-wanted-there = fault-wanted

-- "One record per live client of the TM, rising number": the clients' places are in the order of their numbers.
pub clients-rise-by-number : (b : Book) (t : ℕ) → Sound b → (j k : ℕ) → j < k → k < length (live_clients b t)
    → number_at b (get_or (live_clients b t) j 0) < number_at b (get_or (live_clients b t) k 0)
clients-rise-by-number = numbers-rise

-- No client has number 0, so that 0 can say that none is wanted.
pub no-client-has-number-0 : (b : Book) (t : ℕ) → Sound b → (j : ℕ) → j < length (live_clients b t) → 0 < number_at b (get_or (live_clients b t) j 0)
no-client-has-number-0 = above-0
