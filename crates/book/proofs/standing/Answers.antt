-- `book::standing` meets its contract: 1, 7 for a number that no row held has, 7 for a retired account, or the figures by the kept need (K3).
use mathlib.Core.Bool.{Bool, true, false, and-false}
use lib.ListN.{get_or}
use mathlib.Core.Path.{◌≡◌, sym, ap, subst, ◌∙◌}
use Prim.Native.Nat.{ℕ, ◌≤◌, ◌<◌}
use native.Mathlib.Omega.{arith}
use borrow.Author.Tests.{lt-ltb, le-ltb}
use Rattle.rows.specs.declared.Rule.TheVariants.{New}
use Rattle.rows.specs.Facts.{Shaped}
use Rattle.rows.specs.KeptNeeds.{kept_need}
use Rattle.rows.specs.Rows.{row_at, mode_at, place_of, view, is_live}
use Rattle.table.specs.declared.Table.{Table}
use Rattle.table.specs.Words.{turned_back}
use Rattle.table.proofs.Gathered.{row-in}
use Rattle.book.specs.Sound.{sound_b}
use Rattle.book.specs.Asked.{standing_refusal, figures_of}
use Rattle.book.proofs.RowTests.{sound-test-ranged}
use Rattle.book.proofs.SoundTest.{sound→}
use Rattle.book.proofs.SeenTable.{seen-by, seen-within}
use Rattle.book.proofs.StandingRefusals.{unsound-refused, dead-refused, live-answered, standing_by}
use Rattle.book.proofs.standing.Goals as goal

-- past the first test the book is sound
sound : (t : Table) {x : Bool} → x ≡ sound_b (turned_back t) → x ≡ true → sound_b (turned_back t) ≡ true
sound t e h = sym e ∙ h

most : (t : Table) → sound_b (turned_back t) ≡ true → t.count ≤ 256
most t h = (sound-test-ranged (turned_back t) h).most

-- a place whose row isn't live, or that no row has
dead : (t : Table) (account : ℕ) {place : ℕ} → sound_b (turned_back t) ≡ true → place ≡ place_of (turned_back t) account
    → is_live (turned_back t) place ≡ false → standing_refusal (turned_back t) account ≡ 7
dead t account h e l = dead-refused (turned_back t) account h (ap (is_live (turned_back t)) (sym e) ∙ l)

live-at : (t : Table) (place : ℕ) → sound_b (turned_back t) ≡ true → place < t.count → (row_at (turned_back t) place).live ≡ get_or t.marks.live place false
live-at t place h l = ap (λ r. r.live) (row-in t.marks t.amounts place (omega (arith, most t h)))

pub returns-then-not-table_sound : goal.returns-then-not-table_sound
returns-then-not-table_sound c =
    let b = turned_back c.args.t in
    standing_by b c.args.account 1 (unsound-refused b c.args.account (sym c.table_sound.ensures ∙ c.if-not-table_sound.true)) c.refused.ensures

pub place_among-place-requires : goal.place_among-place-requires
place_among-place-requires c =
    let s = sound→ _ (sound c.args.t c.table_sound.ensures c.if-not-table_sound.false) in
    record { most = s.most; up = s.numbered.rises }

pub returns-then-place-t : goal.returns-then-place-t
returns-then-place-t c =
    let t = c.args.t in
    let h = sound t c.table_sound.ensures c.if-not-table_sound.false in
    standing_by _ c.args.account 7 (dead t c.args.account h c.place_among-place.ensures (simp (le-ltb c.place_among-place.result t.count c.if-place-t.true)))
    c.refused-then-place-t.ensures

pub bounds-t-i : goal.bounds-t-i
bounds-t-i c = omega (arith, most c.args.t (sound c.args.t c.table_sound.ensures c.if-not-table_sound.false))

pub returns-then-not-t-i : goal.returns-then-not-t-i
returns-then-not-t-i c =
    let t = c.args.t in
    let h = sound t c.table_sound.ensures c.if-not-table_sound.false in
    standing_by _ c.args.account 7
    (dead t c.args.account h c.place_among-place.ensures (simp (live-at t c.place_among-place.result h c.if-place-t.false ∙ c.if-not-t-i.true, and-false)))
    c.refused-then-not-t-i.ensures

pub bounds-t-i-2 : goal.bounds-t-i-2
bounds-t-i-2 c = omega (arith, most c.args.t (sound c.args.t c.table_sound.ensures c.if-not-table_sound.false))

pub offset_bounds-t-i : goal.offset_bounds-t-i
offset_bounds-t-i c = omega (arith, most c.args.t (sound c.args.t c.table_sound.ensures c.if-not-table_sound.false))

pub bounds-t-i-3 : goal.bounds-t-i-3
bounds-t-i-3 c = omega (arith, most c.args.t (sound c.args.t c.table_sound.ensures c.if-not-table_sound.false))

-- the kept need is the one worked out afresh
pub figures-requires : goal.figures-requires
figures-requires c =
    let t = c.args.t in
    let h = sound t c.table_sound.ensures c.if-not-table_sound.false in
    let s = sound→ (turned_back t) h in
    let same = sym (seen-by t New) in
    let place = c.place_among-place.result in (
      seen-within t (sound-test-ranged (turned_back t) h),
      subst Shaped same s.shaped,
      c.if-place-t.false,
      s.kept place (omega (arith, s.most, c.if-place-t.false)) ∙ ap (λ v. kept_need v place) same,
    )

pub returns : goal.returns
returns c =
    let t = c.args.t in
    let b = turned_back t in
    let h = sound t c.table_sound.ensures c.if-not-table_sound.false in
    let e = c.place_among-place.ensures in
    let place = c.place_among-place.result in
    standing_by b c.args.account 0
    (live-answered b c.args.account h (ap (is_live b) (sym e) ∙ simp (lt-ltb place t.count c.if-place-t.false, live-at t place h c.if-place-t.false ∙ c.if-not-t-i.false)))
    (c.figures.ensures ∙ ap (λ v. figures_of v (mode_at b place) place) (seen-by t New) ∙ ap (λ p. figures_of (view b) (mode_at b p) p) e)
