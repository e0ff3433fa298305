-- What a record's answer shows, by the change that the record makes.
use mathlib.Core.Bool.{Bool, true, false}
use mathlib.Core.List.{List, [], ◌∷◌}
use mathlib.Core.Path.{◌≡◌, refl, sym, ap, ◌∙◌}
use Prim.Native.Nat.{ℕ, suc, ◌+◌}
use native.Mathlib.Omega.{arith}
use lib.Dec.{eqb}
use lib.ListN.{set}
use lib.Seq.{sets}
use borrow.Author.Tests.{ne_eqb}
use Rattle.sums.specs.Choice.{pick}
use Rattle.sums.proofs.Choices.{pick_no}
use Rattle.rows.specs.declared.Book.{Book}
use Rattle.book.specs.Facts.{Sound}
use Rattle.dayfile.specs.declared.Record.{Record}
use Rattle.rules.specs.declared.Change.{Change}
use Rattle.rules.specs.declared.Change.TheVariants.{Refuse, Put, Open}
use Rattle.rules.specs.Numbered.{placed, act_of}
use Rattle.rules.proofs.Deciding.{never-one, refuse-number}
use Rattle.desk.specs.declared.Outcome.TheVariants.{Refused}
use Rattle.desk.specs.Answers.{nobody, of_record, answer_of, carried_in}
use Rattle.desk.specs.Steps.{step_of}
use Rattle.records.specs.LineNumbers.{numbers_of_line}
use Rattle.steps.specs.Steps.{refusal_shown, given_shown, carried_shown}

-- the numbers of a record at a sound book, by its change
abbrev pub numbers_by : Record → ℕ → Change → List ℕ
numbers_by r next c = r.serial ∷ r.code ∷ r.account ∷ refusal_shown c ∷ given_shown next c ∷ []

pub carried-shown : (next : ℕ) (r : Record) (c : Change) → carried_in (answer_of next r c).outcome ≡ carried_shown c
unfolding pick
carried-shown next r (Refuse n) = by (eqb n 1)
  where
    by : (t : Bool) → carried_in (pick t (nobody (Refused n)) (of_record r (Refused n))).outcome ≡ 0
    by true = refl
    by false = refl
carried-shown next r (Put x) = refl
carried-shown next r (Open x) = refl

pub numbers-by : (b : Book) (r : Record) (c : Change) → Sound b → c ≡ act_of b r → numbers_of_line (step_of b r).answer ≡ numbers_by r b.next c
unfolding numbers_of_line step_of
numbers-by b r (Refuse n) s e =
    ap numbers_of_line (ap (answer_of b.next r) (sym e) ∙ pick_no (eqb n 1) _ _ (ne_eqb n 1 (λ q. never-one b (placed b r) s (refuse-number b (placed b r) n (sym e) ∙ q))))
numbers-by b r (Put x) s e = ap (λ c. numbers_of_line (answer_of b.next r c)) (sym e)
numbers-by b r (Open x) s e = ap (λ c. numbers_of_line (answer_of b.next r c)) (sym e)

-- five stores, one after the other
pub five-stores : (l : List ℕ) (at a b c d e : ℕ)
    → set (set (set (set (set l at a) (at + 1) b) (at + 2) c) (at + 3) d) (at + 4) e ≡ sets l at (a ∷ b ∷ c ∷ d ∷ e ∷ [])
five-stores l at a b c d e =
    let e₁ : at + 1 ≡ suc at = omega arith in
    let e₂ : at + 2 ≡ suc (suc at) = omega arith in
    let e₃ : at + 3 ≡ suc (suc (suc at)) = omega arith in
    let e₄ : at + 4 ≡ suc (suc (suc (suc at))) = omega arith in
    rw (e₁, e₂, e₃, e₄)
