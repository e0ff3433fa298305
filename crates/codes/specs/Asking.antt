-- What a record asks of the row that it names, by its code, and the head of a record in a piece. Only for internal functions.
use Rattle.std.specs.Prelude.{Bool, not, ◌&&◌, ◌||◌, List, ◌≡◌, ℕ, ◌+◌, ◌≤◌, eqb, leb, length, drop}
use Rattle.sums.specs.Choice.{pick, unless_refused}
use Rattle.rows.specs.declared.Kinds.{Kinds}
use Rattle.rows.specs.Rows.{ceiling}
use Rattle.dayfile.specs.declared.Record.{Record}
use Rattle.dayfile.specs.declared.Found.TheVariants.{End, Cut, Whole}
use Rattle.dayfile.specs.Records.{bit}
use Rattle.dayfile.specs.Reading.{size_of, record_of, found_at}
use Rattle.codes.specs.declared.asked.Head.{Head}
use Rattle.codes.specs.declared.asked.Headed.{Headed}
use Rattle.codes.specs.declared.asked.Headed.TheVariants.{End as NoHead, Cut as TooFew, Whole as Begins}
use Rattle.codes.specs.declared.asked.Asked.{Asked}
use Rattle.codes.specs.declared.asked.Asked.TheVariants.{Refused, Bare, One, Only, Four}
use Rattle.table.specs.declared.Marks.{Marks}
use Rattle.codes.specs.declared.one_kind.Kind.{Kind}
use Rattle.codes.specs.declared.one_kind.Kind.TheVariants.{Cash, Deposits, Guarantees, Securities}
use Rattle.codes.specs.Own.{early_number, Answered}
use Rattle.codes.specs.OneKind.{only_kind}

-- which amounts a code names: one or more kinds, one amount, which is a margin or pledged, or none
abbrev pub names_kinds : ℕ → Bool
names_kinds code = leb 4 code && leb code 7

abbrev pub names_one : ℕ → Bool
names_one code = leb 8 code && leb code 13 && not (eqb code 11)

abbrev pub names_margin : ℕ → Bool
names_margin code = eqb code 10 || eqb code 13

abbrev pub names_none : ℕ → Bool
names_none code = leb 1 code && leb code 3 || eqb code 11

-- an amount that was read, and so is 0 where its bit is: from 1 to the ceiling, or 0; and each of the four
abbrev pub good_named : ℕ → ℕ → Bool
good_named bit x = leb bit x && leb x ceiling

abbrev pub good_kinds : ℕ → Kinds → Bool
good_kinds named k =
    good_named (bit 0 named) k.cash && good_named (bit 1 named) k.deposits && good_named (bit 2 named) k.guarantees && good_named (bit 3 named) k.securities

-- the least that the one amount may be, which what is set has none of (K8), and whether it is good
abbrev pub least_of : ℕ → ℕ
least_of code = pick (leb code 9) 1 0

abbrev pub good_one : ℕ → ℕ → Bool
good_one code x = leb (least_of code) x && leb x ceiling

-- the one amount of a record that names one
abbrev pub one_amount : Record → ℕ
one_amount r = pick (names_margin r.code) r.margin r.pledged

-- the amounts of a record that its code names
abbrev pub asks_of : Record → Asked
asks_of r = pick (names_kinds r.code) (Four r.kinds) (pick (names_one r.code) (One (one_amount r)) Bare)

-- those, unless a line before 8 refuses the record
unfoldable pub asked_of : Bool → ℕ → Record → Asked
asked_of alive serial r = unless_refused (early_number alive serial r) (asks_of r) Refused

-- a second mark byte that names one kind alone, and which it names
abbrev pub names_only : ℕ → Bool
names_only named = eqb named 1 || eqb named 2 || eqb named 4 || eqb named 8

abbrev pub kind_of : ℕ → Kind
kind_of named = pick (eqb named 1) Cash (pick (eqb named 2) Deposits (pick (eqb named 4) Guarantees Securities))

-- what is asked with every kind written out: one kind alone stands for four amounts
abbrev pub meant : Asked → Asked
meant (Refused n) = Refused n
meant Bare = Bare
meant (One x) = One x
meant (Only kind x) = Four (only_kind kind x)
meant (Four k) = Four k

-- what the functions of kinds answer, and those of one amount: the table's answer to each record that names this
abbrev pub AnswersKinds : Marks → List ℕ → List ℕ → Bool → ℕ → ℕ → Kinds → ℕ → List ℕ → Type 0
AnswersKinds m w under on i code k x u = (count : ℕ) (r : Record) → (r.code ≡ code) × (r.account ≡ i) × (r.kinds ≡ k) → Answered count m w under on r x m u

abbrev pub AnswersOne : Marks → List ℕ → List ℕ → Bool → ℕ → ℕ → ℕ → ℕ → List ℕ → Type 0
AnswersOne m w under on i code y x u = (count : ℕ) (r : Record) → (r.code ≡ code) × (r.account ≡ i) × (one_amount r ≡ y) → Answered count m w under on r x m u

-- the record at a place of a piece that begins with this head
abbrev pub record_at : List ℕ → ℕ → Head → Record
record_at s place h = record_of h.code h.named (drop (place + 2) s)

-- it is whole, and the head is its own
pub record Heads (s : List ℕ) (place : ℕ) (h : Head) : Type 0 where
  pub whole : place + size_of h.named ≤ length s
  pub serial : h.serial ≡ (record_at s place h).serial
  pub account : h.account ≡ (record_at s place h).account

-- what stands at a place, by its head
abbrev pub HeadedAt : List ℕ → ℕ → Headed → Type 0
HeadedAt s place NoHead = found_at s place ≡ End
HeadedAt s place TooFew = found_at s place ≡ Cut
HeadedAt s place (Begins h next) = (found_at s place ≡ Whole (record_at s place h) next) × Heads s place h
