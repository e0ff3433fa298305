-- Document 02, K13: what a check of a statement finds.
use Rattle.std.specs.Prelude.{Bool, true, not, ◌&&◌, List, [], ◌∷◌, ◌++◌, ℕ, zero, suc, ◌+◌, eqb, ltb, drop}
use Rattle.sums.specs.Choice.{pick, unless_refused}
use Rattle.sums.specs.Table.{Line, ◌when◌, first}
use Rattle.rows.specs.declared.Kinds.{Kinds}
use Rattle.rows.specs.declared.Book.{Book}
use Rattle.rows.specs.Rows.{row_at, number_at, place_of, is_live, is_live_client_of}
use Rattle.book.specs.Sound.{sound_b}
use Rattle.statement.specs.declared.Finding.{Finding}
use Rattle.statement.specs.declared.records.Parts.{Parts}
use Rattle.statement.specs.Forms.{size_in, account_in, parts_in, form_faults}

-- an account's total over the four kinds, at face value; "Pledged is not in it."
abbrev pub total_of : Kinds → ℕ
total_of k = k.cash + k.deposits + k.guarantees + k.securities

-- "One record per live client of the TM, rising number": the places of the live clients of the TM at place t, of n places from i on; numbers rise with places
unfoldable pub clients_from : Book → ℕ → ℕ → ℕ → List ℕ
clients_from b t zero i = []
clients_from b t (suc n) i = pick (is_live_client_of b t i) (i ∷ clients_from b t n (i + 1)) (clients_from b t n (i + 1))

abbrev pub live_clients : Book → ℕ → List ℕ
live_clients b t = clients_from b t b.count 0

-- "retained by TM plus placed with CM is received; retained by CM plus placed with the corporation is placed with CM"
abbrev pub adds_up : Parts → Bool
adds_up p = eqb (p.retained + p.placed) p.received && eqb (p.held + p.lodged) p.placed

-- "27 sums, 28 received, 29 allocation below what is placed": five amounts held against a client's total received and total allocated
abbrev pub sum_faults : Parts → ℕ → ℕ → List Line
sum_faults p received allocated =
    (27 when not (adds_up p))
    ∷ (28 when not (eqb p.received received))  -- "received is the book's total"
    ∷ (29 when ltb allocated p.lodged)  -- "the book's allocated total is not below what is placed with the corporation"
    ∷ []

-- "26 account not the TM's next live client": a record held against a client, by its number and its totals
abbrev pub faults_for : ℕ → ℕ → ℕ → List ℕ → List Line
faults_for number received allocated l = form_faults l ++ ((26 when not (eqb (account_in l) number)) ∷ sum_faults (parts_in l) received allocated)

-- held against the client at place i
abbrev pub record_faults : Book → ℕ → List ℕ → List Line
record_faults b i l = faults_for (number_at b i) (total_of (row_at b i).received) (total_of (row_at b i).allocated) l

-- a record behind that of the last client
abbrev pub surplus_faults : List ℕ → List Line
surplus_faults l = form_faults l ++ ((26 when true) ∷ [])

-- a refusal or 0, the place of the record at fault, counted from 0, and the number of the account wanted there
abbrev pub found : ℕ → ℕ → ℕ → Finding
found refusal k wanted = record { refusal = refusal; index = k; wanted = wanted }

-- "then by first record at fault": the records from place k on held against the clients at these places, one by one; "26 .. (at the end: one still wanting)"
unfoldable pub finding_from : Book → ℕ → List ℕ → List ℕ → Finding
finding_from b k [] [] = found 0 0 0
finding_from b k [] (x ∷ l) = found (first (surplus_faults (x ∷ l))) k 0
finding_from b k (i ∷ is) [] = found 26 k (number_at b i)
finding_from b k (i ∷ is) (x ∷ l) =
    unless_refused (first (record_faults b i (x ∷ l))) (finding_from b (k + 1) is (drop (size_in (x ∷ l)) (x ∷ l))) (λ n. found n k (number_at b i))

-- "Refusals: 1, 7 and 8 (not a TM) first"
abbrev pub asked_refusals : Book → ℕ → List Line
asked_refusals b tm =
    (1 when not (sound_b b)) ∷ (7 when not (is_live b (place_of b tm))) ∷ (8 when not (eqb (row_at b (place_of b tm)).sort 1)) ∷ []

-- what a check of a TM's statement finds
unfoldable pub statement_finding : Book → ℕ → List ℕ → Finding
statement_finding b tm s = unless_refused (first (asked_refusals b tm)) (finding_from b 0 (live_clients b (place_of b tm)) s) (λ n. found n 0 0)
