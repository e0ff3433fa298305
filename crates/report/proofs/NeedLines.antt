-- The lines of `needs` from what `book::needs` gives with a place for each account listed.
use mathlib.Core.Bool.{Bool, true, false, false≢true}
use mathlib.Core.List.{List, []}
use mathlib.Core.Path.{◌≡◌, refl, sym, ap, ◌∙◌}
use Prim.Native.Nat.{ℕ, zero, suc, ◌<◌}
use native.Mathlib.Omega.{arith}
use lib.Dec.{eqb}
use lib.ListN.{length, get_or}
use Rattle.sums.proofs.Choices.{pick_yes, pick_no}
use Rattle.sums.proofs.Lists.{length-list_to, at-list_to}
use Rattle.rows.specs.declared.Book.{Book}
use Rattle.rows.specs.View.{need}
use Rattle.rows.specs.Rows.{number_at, view}
use Rattle.book.specs.Sound.{sound_b}
use Rattle.book.specs.NeedsListed.{needs_refusal, needs_room, all_needs}
use Rattle.book.proofs.SoundTest.{sound→}
use Rattle.book.proofs.NeedsAnswers.{needs-unsound, needs-given}
use Rattle.report.specs.Reports.{accounts, lines_of, need_lines, needs_text}
use Rattle.report.specs.Inner.{Tested}

-- the same needs give the same lines
lines-as : (numbers f g : ℕ → ℕ) (n : ℕ) → ((i : ℕ) → i < n → f i ≡ g i) → need_lines numbers f n ≡ need_lines numbers g n
unfolding lines_of
lines-as numbers f g zero h = refl
lines-as numbers f g (suc n) h = let e = lines-as numbers f g n (λ i l. h i (omega arith)) in let q = h n (omega arith) in rw (e, q)

pub no_line : (b : Book) → sound_b b ≡ false → needs_text b ≡ []
unfolding needs_text
no_line b e = pick_no (sound_b b) _ _ e

pub every-line : (b : Book) → sound_b b ≡ true → needs_text b ≡ need_lines (number_at b) (need (view b)) b.count
unfolding needs_text
every-line b e = pick_yes (sound_b b) _ _ e

-- what the call for all needs gives, with a place for each account listed: a sound book has no more accounts than are listed, so that 15 is not met
pub needs-tested : (b : Book) (room : List ℕ) → length room ≡ accounts b.count → Tested b (eqb (needs_refusal b room) 0) (needs_room b room)
unfolding needs_room all_needs
needs-tested b room l = by (sound_b b) refl
  where
    by : (t : Bool) → sound_b b ≡ t → Tested b (eqb (needs_refusal b room) 0) (needs_room b room)
    by true e = let g = needs-given b room e (omega (arith, l, (sound→ b e).most)) in
        rw g (record { is = e; held = λ q. length-list_to (need (view b)) b.count; each = λ q i k. at-list_to (need (view b)) b.count i 0 (omega (arith, length-list_to (need (view b)) b.count)) })
    by false e = rw (needs-unsound b room e) (record { is = e; held = λ q. absurd (false≢true q); each = λ q. absurd (false≢true q) })

-- the lines by a list of the needs
pub tested-text : (b : Book) (needs : List ℕ) → Tested b true needs → need_lines (number_at b) (λ (i : ℕ). get_or needs i 0) (length needs) ≡ needs_text b
tested-text b needs h =
    lines-as (number_at b) _ (need (view b)) (length needs) (h.each refl)
    ∙ ap (need_lines (number_at b) (need (view b))) (h.held refl) ∙ sym (every-line b h.is)
