-- One record more, on words in place: the record loop's turn.
use mathlib.Core.Bool.{Bool}
use mathlib.Core.List.{List, [], ◌∷◌}
use mathlib.Core.Path.{◌≡◌, refl, sym, ap, subst, ◌∙◌}
use Prim.Native.Nat.{ℕ, ◌+◌, ◌≤◌, ◌<◌}
use native.Mathlib.Omega.{arith}
use Rattle.sums.specs.Choice.{pick}
use Rattle.rows.specs.declared.Book.{Book}
use Rattle.dayfile.specs.declared.Record.{Record}
use Rattle.dayfile.specs.declared.Found.TheVariants.{Whole}
use Rattle.dayfile.specs.Reading.{found_at}
use Rattle.rules.specs.Effects.{change_of}
use Rattle.rules.specs.Numbered.{act_of}
use Rattle.codes.specs.declared.asked.Head.{Head}
use Rattle.codes.specs.Asking.{record_at, Heads}
use Rattle.codes.proofs.Heading.{code_read}
use Rattle.records.specs.Inner.{put_line_numbers}
use Rattle.records.proofs.Turning.{Loop, carried-most, turn-one-more}
use Rattle.steps.specs.declared.At.{At}
use Rattle.steps.specs.declared.Gone.{Gone}
use Rattle.steps.specs.declared.Lent.{Lent}
use Rattle.steps.specs.Steps.{refusal_shown, book_in, at_after, Stepped, SteppedOn}

pub turn_on : (s : List ℕ) (most : ℕ) (numbered : Bool) (room₀ : List ℕ) (b₀ : Book) (place₀ read₀ done₀ : ℕ) (room : List ℕ) (at : At) (was : List Bool) (l : Lent) (place read done : ℕ)
    → Loop s most numbered room₀ b₀ place₀ read₀ done₀ room (book_in at was l) place read done
    → (r : Record) (next : ℕ) → read < most → found_at s place ≡ Whole r next
    → (x : Gone) (k : Lent) → SteppedOn at was l r x k
    → (room' : List ℕ) → room' ≡ pick numbered (put_line_numbers room read (r.serial ∷ r.code ∷ r.account ∷ x.refusal ∷ x.given ∷ [])) room
    → Loop s most numbered room₀ b₀ place₀ read₀ done₀ room' (book_in (at_after at x) was k) next (read + 1) (done + x.carried)
turn_on s most numbered room₀ b₀ place₀ read₀ done₀ room at was l place read done g r next m f x k h room' e =
    let b = book_in at was l in
    subst (λ c. Loop s most numbered room₀ b₀ place₀ read₀ done₀ room' (book_in (at_after at x) was k) next (read + 1) (done + c)) (sym h.carried)
    (turn-one-more s most numbered room₀ b₀ place₀ read₀ done₀ room b place read done g r next (act_of b r) room' _ m f refl
    (e ∙ ap (λ q. pick numbered (put_line_numbers room read (r.serial ∷ r.code ∷ r.account ∷ q ∷ x.given ∷ [])) room) h.refusal
    ∙ ap (λ q. pick numbered (put_line_numbers room read (r.serial ∷ r.code ∷ r.account ∷ refusal_shown (act_of b r) ∷ q ∷ [])) room) h.given) h.book)

pub step-given-few : {at : At} {was : List Bool} {l : Lent} {r : Record} {x : Gone} {k : Lent} → Stepped at was l r x k → x.carried ≤ 1
step-given-few {at} {was} {l} {r} h = omega (arith, h.carried, carried-most (change_of (book_in at was l) r))

-- the line's numbers are the record's
pub line_read : {s : List ℕ} {place : ℕ} {h : Head} → Heads s place h → (numbered : Bool) (room : List ℕ) (read refusal given : ℕ)
    → pick numbered (put_line_numbers room read (h.serial ∷ h.code ∷ h.account ∷ refusal ∷ given ∷ [])) room
    ≡ pick numbered (put_line_numbers room read ((record_at s place h).serial ∷ (record_at s place h).code ∷ (record_at s place h).account ∷ refusal ∷ given ∷ [])) room
line_read {s} {place} {h} g numbered room read refusal given = rw (code_read s place h, ← g.serial, ← g.account)
