-- The rows of `holdings` from what is in excess under each account.
use mathlib.Core.Bool.{Bool, true, false}
use mathlib.Core.List.{List, [], ◌++◌}
use mathlib.Core.Logic.{inl, inr}
use mathlib.Core.Path.{◌≡◌, refl, subst, ◌∙◌}
use Prim.Native.Nat.{ℕ, ◌+◌, ◌*◌, ◌<◌}
use native.Mathlib.Omega.{arith}
use borrow.Author.Tests.{eqb-false}
use lib.Dec.{eqb}
use lib.ListN.{take, get_or}
use lib.Seq.{length-take-le, get_or-take}
use Rattle.sums.proofs.Choices.{pick_yes, pick_no, or-fails}
use Rattle.rows.specs.declared.Book.{Book}
use Rattle.rows.specs.View.{View}
use Rattle.rows.specs.Rows.{view}
use Rattle.rows.specs.Facts.{Shaped}
use Rattle.rows.specs.Modes.{has_mode}
use Rattle.rows.specs.DeemedUnder.{DeemedUnder}
use Rattle.rows.specs.Inner.{Ranged, in_tenths}
use Rattle.rows.proofs.BySort.{Sort, cm, tm, client, cp, sort-of}
use Rattle.rows.proofs.DeemedUnder.{none-under}
use Rattle.rows.proofs.Tenths.{shaped_in, use-by}
use Rattle.table.specs.declared.Table.{Table}
use Rattle.table.specs.Words.{turned_back}
use Rattle.table.specs.Facts.{seen_book}
use Rattle.table.proofs.Seen.{seen-view, seen-ranged}
use Rattle.book.specs.Sound.{sound_b}
use Rattle.book.proofs.RowTests.{sound-ranged}
use Rattle.book.proofs.SoundTest.{sound→}
use Rattle.book.proofs.UnderMost.{excess-most}
use Rattle.report.specs.Reports.{lines_of}
use Rattle.report.specs.Holdings.{used_at, book_line, columns, holding_at, holdings_text}
use Rattle.report.specs.Inner.{InExcess}

pub no-holding : (b : Book) → sound_b b ≡ false → holdings_text b ≡ []
unfolding holdings_text
no-holding b e = pick_no (sound_b b) _ _ e

pub every-holding : (b : Book) → sound_b b ≡ true → holdings_text b ≡ book_line b.serial b.next ++ (columns ++ lines_of (holding_at b) b.count)
unfolding holdings_text
every-holding b e = pick_yes (sound_b b) _ _ e

-- a use is ten margins and what is in excess under the account: nothing under a client or CP
used-by : (v : View) → Shaped v → (under : List ℕ) → DeemedUnder (in_tenths v) under → (i : ℕ) → i < v.count → used_at v i ≡ 10 * v.margin i + get_or under i 0
unfolding used_at
used-by v s under h i l = by (has_mode v i) refl
  where
    none : Sort v i → has_mode v i ≡ false → get_or under i 0 ≡ 0
    none (cm e c) q = absurd (eqb-false i 0 (or-fails (eqb i 0) _ q).0 e)
    none (tm p c) q = absurd (eqb-false (v.sort i) 1 (or-fails (eqb i 0) _ q).1 c)
    none (client p c) q = none-under (in_tenths v) (shaped_in true s) under h i l (inl c)
    none (cp p c) q = none-under (in_tenths v) (shaped_in true s) under h i l (inr c)

    by : (t : Bool) → has_mode v i ≡ t → used_at v i ≡ 10 * v.margin i + get_or under i 0
    by true q = pick_yes (has_mode v i) _ _ q ∙ use-by v s under h i l q
    by false q = pick_no (has_mode v i) _ _ q ∙ omega (arith, none (sort-of v s i l) q)

module _ (t : Table) (e : sound_b (turned_back t) ≡ true) where
  abbrev seen : Book
  seen = seen_book t.count t.marks t.amounts

  is_seen : view seen ≡ view (turned_back t)
  is_seen = seen-view t.count t.serial t.marks t.amounts t.modes t.needs t.next t.numbers

  -- what the sums ask of the words
  pub seen-enough : Ranged seen × Shaped (view seen)
  seen-enough =
      let s = sound→ (turned_back t) e in
      (seen-ranged t.count t.serial t.marks t.amounts t.modes t.needs t.next t.numbers (sound-ranged (turned_back t) s), rw is_seen s.shaped)

  pub in-excess : (under : List ℕ) → DeemedUnder (in_tenths (view seen)) under → InExcess (turned_back t) true (take t.count under)
  in-excess under given =
      let s = sound→ (turned_back t) e in
      let h = subst (λ v. DeemedUnder (in_tenths v) under) is_seen given in
      let many = length-take-le t.count under (omega (arith, h.size, s.most)) in
      record {
        is = e;
        found = refl;
        held = many;
        each = λ i l. used-by (view (turned_back t)) s.shaped under h i (omega arith) ∙ rw (get_or-take t.count under i 0 (omega arith));
        most = λ i l. rw (get_or-take t.count under i 0 (omega arith)) (excess-most (turned_back t) s under h i);
      }
