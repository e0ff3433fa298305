-- Which refusal the list of needs gives, and the room with it.
use mathlib.Core.Path.{◌≡◌, ap, ◌∙◌}
use mathlib.Core.Bool.{true, false, not}
use mathlib.Core.List.{List, [], ◌∷◌}
use Prim.Native.Nat.{ℕ}
use lib.Dec.{eqb}
use lib.ListN.{length}
use borrow.Author.Tests.{eq-eqb, ne_eqb}
use Rattle.sums.specs.Choice.{unless_refused}
use Rattle.sums.specs.Table.{◌when◌, first}
use Rattle.sums.proofs.Tables.{first-here, first-later}
use Rattle.rows.specs.declared.Book.{Book}
use Rattle.book.specs.Sound.{sound_b}
use Rattle.book.specs.NeedsListed.{needs_refusal, all_needs, needs_room}

module _ (b : Book) (room : List ℕ) where
  pub needs-by : (n : ℕ) {x : ℕ} {room' : List ℕ} → needs_refusal b room ≡ n → x ≡ n → room' ≡ unless_refused n (all_needs b) (λ n. room)
      → (x ≡ needs_refusal b room) × (room' ≡ needs_room b room)
  unfolding needs_room
  needs-by n e p q = rw e (p, q)

  pub needs-unsound : sound_b b ≡ false → needs_refusal b room ≡ 1
  unfolding needs_refusal
  needs-unsound e = first-here 1 (not (sound_b b)) _ (ap not e)

  pub needs-no-room : sound_b b ≡ true → (length room ≡ b.count → ⊥) → needs_refusal b room ≡ 15
  unfolding needs_refusal
  needs-no-room e n = first-later 1 (not (sound_b b)) _ (ap not e) ∙ first-here 15 (not (eqb (length room) b.count)) [] (ap not (ne_eqb _ _ n))

  pub needs-given : sound_b b ≡ true → length room ≡ b.count → needs_refusal b room ≡ 0
  unfolding needs_refusal first
  needs-given e l =
      first-later 1 (not (sound_b b)) ((15 when not (eqb (length room) b.count)) ∷ []) (ap not e) ∙ first-later 15 (not (eqb (length room) b.count)) [] (ap not (eq-eqb _ _ l))
