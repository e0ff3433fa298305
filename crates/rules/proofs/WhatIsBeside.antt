-- The table on the row named, with what stands beside it, is the table of refusals.
use mathlib.Core.Bool.{Bool, true, false, not, ◌&&◌, ◌||◌}
use mathlib.Core.List.{List, ◌∷◌, ◌++◌}
use mathlib.Core.Logic.{◌⊎◌, inl, inr}
use mathlib.Core.Path.{◌≡◌, refl, sym, ap, ◌∙◌}
use Prim.Native.Nat.{ℕ, ◌≤◌, ◌<◌}
use lib.ListN.{drop}
use lib.Dec.{ltb, eqb}
use borrow.Author.Tests.{ltb-true, eqb-true, not-false}
use Rattle.sums.specs.Choice.{unless_refused}
use Rattle.sums.specs.Table.{Line, ◌when◌, first}
use Rattle.sums.proofs.Choices.{and_split, and_same, or_split}
use Rattle.sums.proofs.Tables.{first-later, first_on, first-beyond}
use Rattle.rows.specs.declared.Row.{Row}
use Rattle.rows.specs.declared.Book.{Book}
use Rattle.rows.specs.View.{blocked}
use Rattle.rows.specs.Rows.{ceiling, mode_at, view, has_live_client, is_live}
use Rattle.rows.specs.Ranges.{no_amounts}
use Rattle.book.specs.Facts.{Sound}
use Rattle.book.proofs.SoundTest.{sound←}
use Rattle.dayfile.specs.declared.Record.{Record}
use Rattle.dayfile.specs.Records.{faults, fault_of}
use Rattle.rules.specs.declared.Change.{Change}
use Rattle.rules.specs.declared.Change.TheVariants.{Refuse}
use Rattle.rules.specs.declared.Beside.{Beside}
use Rattle.rules.specs.Refusals.{named_row, held_by_mode, left_below, takes_blocked, need_passes, new_margin, beside_of, before8, from8, refusal_of}
use Rattle.rules.specs.Effects.{effect_of, change_of}
use Rattle.rules.specs.Inner.{AmountsIn}
use Rattle.dayfile.proofs.Good.{no-fault-good, three-numbered}
use Rattle.rules.proofs.Faults.{amounts-in}

-- 17 looks at the mode only for a release and an unpledge
pub mode-same : (r : Record) (x y : Bool) → (r.code ≡ 7 → x ≡ y) → (r.code ≡ 9 → x ≡ y) → held_by_mode x r ≡ held_by_mode y r
mode-same r x y h k = and_same (eqb r.code 7 || eqb r.code 9) (λ e. by (or_split (eqb r.code 7) (eqb r.code 9) e))
  where
    by : (eqb r.code 7 ≡ true) ⊎ (eqb r.code 9 ≡ true) → x ≡ y
    by (inl e) = h (eqb-true r.code 7 e)
    by (inr e) = k (eqb-true r.code 9 e)

-- and so does 12 at what would be left
below-same : (r : Record) (x y : Bool) → (r.code ≡ 7 → x ≡ y) → (r.code ≡ 9 → x ≡ y) → takes_blocked x r ≡ takes_blocked y r
below-same = mode-same

-- whether a release or unpledge would leave less than was blocked
abbrev below_in : Book → Record → Bool
below_in b r = left_below (named_row b r) (blocked (view b) r.account) r

-- the table from 7 on
abbrev pub from7 : Row → ℕ → ℕ → Beside → Record → List Line
from7 row count next beside r = (7 when not (ltb r.account count && row.live)) ∷ from8 row count next beside r

-- and from 3 on, with what a record then does
abbrev pub refusals_by : Row → ℕ → ℕ → ℕ → Beside → Record → List Line
refusals_by row count next serial beside r = before8 (ltb r.account count && row.live) serial r ++ from8 row count next beside r

unfoldable pub refusal_by : Row → ℕ → ℕ → ℕ → Beside → Record → ℕ
refusal_by row count next serial beside r = first (refusals_by row count next serial beside r)

unfoldable pub change_by : Row → ℕ → ℕ → ℕ → Beside → Record → Change
change_by row count next serial beside r = unless_refused (refusal_by row count next serial beside r) (effect_of row r.account r) Refuse

-- what stands beside the row is right where the table asks for it
pub record IsBeside (b : Book) (r : Record) (s : Beside) : Type 0 where
  pub mode-kinds : r.code ≡ 7 → r.account < b.count → s.mode ≡ mode_at b r.account
  pub mode-pledge : r.code ≡ 9 → r.account < b.count → s.mode ≡ mode_at b r.account
  pub below-kinds : r.code ≡ 7 → r.account < b.count → s.below ≡ left_below (named_row b r) (blocked (view b) r.account) r
  pub below-pledge : r.code ≡ 9 → r.account < b.count → s.below ≡ left_below (named_row b r) (blocked (view b) r.account) r
  pub cover : r.code ≡ 10 → r.account < b.count → r.margin ≤ ceiling → s.passes ≡ need_passes (view (new_margin b r))
  pub clients : r.code ≡ 11 → r.account < b.count → s.client ≡ has_live_client b r.account

pub beside-is : (b : Book) (r : Record) → IsBeside b r (beside_of b r)
beside-is b r = record {
  mode-kinds = λ e l. refl;
  mode-pledge = λ e l. refl;
  below-kinds = λ e l. refl;
  below-pledge = λ e l. refl;
  cover = λ e l g. refl;
  clients = λ e l. refl;
}

module _ (b : Book) (s : Sound b) (r : Record) (beside : Beside) (w : IsBeside b r beside) where
  -- lines 17 and 12 to 14, where the account is live and the amounts are in range
  last-lines : r.account < b.count → AmountsIn r → first (drop 5 (from7 (named_row b r) b.count b.next beside r)) ≡ first (drop 5 (from7 (named_row b r) b.count b.next (beside_of b r) r))
  last-lines l a =
      rw (
        mode-same r beside.mode (mode_at b r.account) (λ e. w.mode-kinds e l) (λ e. w.mode-pledge e l),
        below-same r beside.below (below_in b r) (λ e. w.below-kinds e l) (λ e. w.below-pledge e l),
        and_same (eqb r.code 10) (λ e. ap (λ z. ltb (named_row b r).margin r.margin && z) (w.cover (eqb-true r.code 10 e) l a.margin)),
        and_same (eqb r.code 11) (λ e. ap (λ z. not (no_amounts (named_row b r)) || z) (w.clients (eqb-true r.code 11 e) l)),
      )

  was-given : not (is_live b r.account) ≡ false → r.account < b.count
  was-given e = ltb-true _ _ (and_split (ltb r.account b.count) (named_row b r).live (not-false _ e)).0

  from-seven : fault_of r ≡ 0 → first (from7 (named_row b r) b.count b.next beside r) ≡ first (from7 (named_row b r) b.count b.next (beside_of b r) r)
  from-seven e₆ =
      first_on 7 _ _ _ (λ e₇. first_on 8 _ _ _ (λ e₈. first_on 9 _ _ _ (λ e₉. first_on 10 _ _ _ (λ e₁₀. first_on 11 _ _ _ (λ e₁₁.
      last-lines (was-given e₇) (amounts-in r (no-fault-good r e₆)))))))

  pub refusal-beside : refusal_by (named_row b r) b.count b.next b.serial beside r ≡ refusal_of b r
  unfolding refusal_by refusal_of fault_of
  refusal-beside =
      first_on 3 _ _ _ (λ e₃. first-beyond (faults r) _ _ (three-numbered r) (λ e₆. from-seven e₆)) ∙ sym (first-later 1 _ _ (ap not (sound← b s)))

  pub change-beside : change_by (named_row b r) b.count b.next b.serial beside r ≡ change_of b r
  unfolding change_by change_of
  change-beside = ap (λ n. unless_refused n (effect_of (named_row b r) r.account r) Refuse) refusal-beside
