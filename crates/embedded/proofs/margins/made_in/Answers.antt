-- `embedded::margins::made_in` meets its contract.
use mathlib.Core.List.{List}
use mathlib.Core.Path.{◌≡◌, ap, ◌∙◌}
use Prim.Native.Nat.{ℕ}
use borrow.Author.Tests.{eq-eqb, ne_eqb}
use lib.IntN.{ℤ}
use lib.ListN.{length}
use mir.Facts.{to_z-of_z}
use mir.Syntax.{w64}
use Rattle.sums.proofs.Choices.{pick_first, pick_second}
use Rattle.currency.specs.declared.Position.{Position}
use Rattle.currency.specs.Margins.{made_of}
use Rattle.exposure.specs.Joined.{joined_of}
use Rattle.embedded.specs.Margins.{made_in}
use Rattle.embedded.proofs.margins.made_in.Goals as goal

-- the same positions and figures make the same
same : (serial account initial number : ℕ) {l m : List Position} {p q x s p' q' x' s' : ℤ} → l ≡ m → p ≡ p' → q ≡ q' → x ≡ x' → s ≡ s'
    → joined_of serial account initial l number p q x s ≡ joined_of serial account initial m number p' q' x' s'
same serial account initial number e a b c d = cc

pub returns-then-figures-eq0 : goal.returns-then-figures-eq0
unfolding made_in
returns-then-figures-eq0 c =
    let a = c.args in
    pick_first _ (eq-eqb _ _ c.if-figures-eq0.true)
    (c.margin.ensures.value ∙ ap (λ l. made_of a.serial a.account a.initial l (length a.products.now)) c.positions-list.ensures)

pub returns : goal.returns
unfolding made_in
returns c =
    let a = c.args in
    pick_second _ (ne_eqb _ _ c.if-figures-eq0.false)
    (c.margin-2.ensures.value
    ∙ same a.serial a.account a.initial (length a.products.now) c.positions-list.ensures (to_z-of_z {w = w64} (record { sfits = c.figure_at.type_inv }) ∙ c.figure_at.ensures) (to_z-of_z {w = w64} (record { sfits = c.figure_at-2.type_inv }) ∙ c.figure_at-2.ensures)
    (to_z-of_z {w = w64} (record { sfits = c.figure_at-3.type_inv }) ∙ c.figure_at-3.ensures) (to_z-of_z {w = w64} (record { sfits = c.figure_at-4.type_inv }) ∙ c.figure_at-4.ensures))
