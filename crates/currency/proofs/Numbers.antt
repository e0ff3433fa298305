-- Document 02's number of what is made is the refusal.
use mathlib.Core.List.{List}
use mathlib.Core.Path.{◌≡◌, refl, ap, ◌∙◌}
use Prim.Native.Nat.{ℕ, zero, suc}
use Rattle.sums.specs.Choice.{unless_refused}
use Rattle.dayfile.specs.declared.Record.{Record}
use Rattle.currency.specs.declared.Position.{Position}
use Rattle.currency.specs.declared.Made.{Made}
use Rattle.currency.specs.declared.Made.TheVariants.{Given, Refused}
use Rattle.currency.specs.Margins.{refusal_of, made_of, number_made}

pub number-made : (n : ℕ) (r : Record) → number_made (unless_refused n (Given r) Refused) ≡ n
number-made zero r = refl
number-made (suc n) r = refl

pub made-named : (serial account initial : ℕ) (positions : List Position) (number : ℕ) (m : Made) → m ≡ made_of serial account initial positions number
    → (m ≡ made_of serial account initial positions number) × (number_made m ≡ refusal_of initial positions number)
unfolding made_of
made-named serial account initial positions number m e = (e, ap number_made e ∙ number-made (refusal_of initial positions number) _)
