-- K2: "Blocking doesn't look at it.", and with K5 one line of the table does, 17's: at two sound books that differ in their modes alone a record's
-- verdict and its change are the same where the account named has the same mode, or where neither verdict is 17.
use mathlib.Core.Bool.{Bool, false}
use mathlib.Core.List.{List}
use mathlib.Core.Path.{◌≡◌, refl, sym, ap, ◌∙◌}
use lib.ListN.{get_or}
use Rattle.sums.specs.Choice.{unless_refused}
use Rattle.sums.specs.Table.{first}
use Rattle.rows.specs.declared.Book.{Book}
use Rattle.rows.specs.Rows.{mode_at, with_modes, has_live_client}
use Rattle.book.specs.Facts.{Sound}
use Rattle.book.proofs.SoundTest.{sound←}
use Rattle.dayfile.specs.declared.Record.{Record}
use Rattle.rules.specs.declared.Change.TheVariants.{Refuse}
use Rattle.rules.specs.Refusals.{named_row, held_by_mode, refusal_of}
use Rattle.rules.specs.Effects.{effect_of, change_of}
use Rattle.rules.proofs.HeldByMode.{with_held, held-or-not}

module _ (b : Book) (modes : List Bool) (s : Sound b) (t : Sound (with_modes b modes)) (r : Record) where
  -- the table at the other modes is this book's, but for the mode that 17 asks for
  as-held : refusal_of (with_modes b modes) r ≡ first (with_held b r (held_by_mode (get_or modes r.account false) r))
  unfolding refusal_of has_live_client
  as-held = rw (sound← b s, sound← (with_modes b modes) t)

  as_is : refusal_of b r ≡ first (with_held b r (held_by_mode (mode_at b r.account) r))
  unfolding refusal_of
  as_is = refl

  pub same-verdict : get_or modes r.account false ≡ mode_at b r.account → refusal_of (with_modes b modes) r ≡ refusal_of b r
  same-verdict e = as-held ∙ ap (λ on. first (with_held b r (held_by_mode on r))) e ∙ sym as_is

  pub same-but-17 : (refusal_of (with_modes b modes) r ≡ 17 → ⊥) → (refusal_of b r ≡ 17 → ⊥) → refusal_of (with_modes b modes) r ≡ refusal_of b r
  same-but-17 p q = as-held ∙ held-or-not b r _ _ (λ e. p (as-held ∙ e)) (λ e. q (as_is ∙ e)) ∙ sym as_is

  pub same-change : refusal_of (with_modes b modes) r ≡ refusal_of b r → change_of (with_modes b modes) r ≡ change_of b r
  unfolding change_of
  same-change e = ap (λ n. unless_refused n (effect_of (named_row b r) r.account r) Refuse) e
