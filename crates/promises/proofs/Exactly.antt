-- A number that a table gives: exactly when its test holds and no earlier one does, and 0 exactly when none holds.
use mathlib.Core.List.{List}
use mathlib.Core.Path.{◌≡◌, sym, ◌∙◌}
use Prim.Native.Nat.{ℕ, ◌<◌}
use Rattle.sums.specs.Table.{Line, first, NoneHolds}
use Rattle.sums.proofs.Tables.{Numbered, given-first, first-given, none-gives-0, gives-0-none}
use Rattle.promises.specs.InOrder.{InOrder}

module _ {n : ℕ} (table : List Line) (is : n ≡ first table) where
  pub in_order : (k : ℕ) → 0 < k → InOrder n k table
  in_order k p = ((λ e. first-given table k p (sym is ∙ e)), (λ g. is ∙ given-first g))

  pub none-exactly : Numbered table → (n ≡ 0 → NoneHolds table) × (NoneHolds table → n ≡ 0)
  none-exactly numbered = ((λ e. gives-0-none table numbered (sym is ∙ e)), (λ h. is ∙ none-gives-0 table h))
