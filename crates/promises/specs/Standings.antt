-- K2: "Mode is .. shown in a standing .. Blocking doesn't look at it.": what two standings that differ in the mode alone have in common.
use Rattle.std.specs.Prelude.{List, [], ◌∷◌, ℕ}
use Rattle.book.specs.declared.Figures.{Figures}

-- all that a standing gives but the mode: its refusal, its five figures, and K8's shortfall
abbrev pub all_but_mode : Figures → List ℕ
all_but_mode f = f.refusal ∷ f.collateral ∷ f.need ∷ f.blocked ∷ f.deemed ∷ f.free ∷ f.shortfall ∷ []
