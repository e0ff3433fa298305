-- Document 02, K14: "Two clerks' files are merged in some order." Two orders of the same records.
use Rattle.std.specs.Prelude.{List, [], ◌∷◌, ◌++◌, ◌⊎◌, ◌≡◌, ℕ, zero, suc, ◌<◌, eqb}
use Rattle.sums.specs.Choice.{pick}
use Rattle.rows.specs.declared.Book.{Book}
use Rattle.rows.specs.Rows.{with_modes}
use Rattle.dayfile.specs.declared.Record.{Record}
use Rattle.dayfile.specs.declared.Found.{Found}
use Rattle.dayfile.specs.declared.Found.TheVariants.{End as NoBytes, Cut as TooFew, Whole}
use Rattle.dayfile.specs.Reading.{found_at}
use Rattle.rules.specs.Numbered.{verdict_of}
use Rattle.desk.specs.Steps.{step_of}
use Rattle.merging.specs.Merging.{numbered}
use Rattle.promises.specs.Sequences.{EachCode}

-- "renumbered": a record but for its serial
abbrev pub unnumbered : Record → Record
unnumbered r = numbered 0 r

-- "each account's own records", those that name its number, in their order and without their serials
unfoldable pub own_of : ℕ → List Record → List Record
own_of number [] = []
own_of number (r ∷ rs) = pick (eqb r.account number) (unnumbered r ∷ own_of number rs) (own_of number rs)

-- "two orders of the same records, renumbered, .. in which each account's own records keep their order": every account has the same own records
-- in both. That the two lists then have the same records, each as often, is a law
-- (`two-orders-are-reordered`).
abbrev pub TwoOrders : List Record → List Record → Type 0
TwoOrders rs qs = (number : ℕ) → own_of number rs ≡ own_of number qs

-- the same records, each as often, in some order: the first of one list stands somewhere in the other
pub data Reordered : List Record → List Record → Type 0 where
  none : Reordered [] []
  one : {r : Record} {rs : List Record} (before after : List Record) → Reordered rs (before ++ after) → Reordered (r ∷ rs) (before ++ (r ∷ after))

-- two counters that have no account in common: no number has records of both
abbrev pub Apart : List Record → List Record → Type 0
Apart rs qs = (number : ℕ) → (own_of number rs ≡ []) ⊎ (own_of number qs ≡ [])

-- "without openings": codes 1 to 3 open. Retirings, which K14 leaves out too, may be among them.
abbrev pub WithoutOpenings : List Record → Type 0
WithoutOpenings rs = EachCode (λ code. 3 < code) rs

-- "all are carried out", one after the other
unfoldable pub AllCarriedOut : Book → List Record → Type 0
AllCarriedOut b [] = Unit
AllCarriedOut b (r ∷ rs) = (verdict_of b r ≡ 0) × AllCarriedOut (step_of b r).book rs

-- none of them is refused with 3, one after the other
unfoldable pub SerialsFit : Book → List Record → Type 0
SerialsFit b [] = Unit
SerialsFit b (r ∷ rs) = (verdict_of b r ≡ 3 → ⊥) × SerialsFit (step_of b r).book rs

-- "K2's modes are excepted.": two books that are the same but for their modes (a standing but for the mode that it shows is `all_but_mode` of Standings)
abbrev pub SameButModes : Book → Book → Type 0
SameButModes b c = c ≡ with_modes b c.modes

-- For day files: what stands at a place, and then what `go` gives of the place behind it
abbrev pub listing : (ℕ → List Record) → Found → List Record
listing go NoBytes = []
listing go TooFew = []
listing go (Whole r next) = r ∷ go next

-- the records of a piece from a place on, up to most of them, as a run reads them
unfoldable pub records_at : List ℕ → ℕ → ℕ → List Record
records_at s zero place = []
records_at s (suc most) place = listing (records_at s most) (found_at s place)
