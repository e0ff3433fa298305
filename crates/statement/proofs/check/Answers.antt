-- `statement::check` meets its contract: 1, 7 for a number that no row held has, 7 for a retired account, 8 for one that is no TM, or what its records give.
use mathlib.Core.Bool.{true, false, and-false}
use mathlib.Core.List.{List}
use mathlib.Core.Path.{◌≡◌, sym, ap, ◌∙◌}
use Prim.Native.Nat.{ℕ, ◌≤◌, ◌<◌}
use native.Mathlib.Omega.{arith}
use lib.ListN.{get_or}
use borrow.Author.Tests.{lt-ltb, le-ltb, not-true, not-false}
use Rattle.rows.specs.Rows.{row_at, place_of, is_live}
use Rattle.table.specs.declared.Table.{Table}
use Rattle.table.specs.Words.{turned_back, row_in}
use Rattle.table.proofs.Gathered.{row-in}
use Rattle.book.specs.Sound.{sound_b}
use Rattle.book.proofs.RowTests.{sound-test-ranged}
use Rattle.book.proofs.SoundTest.{sound→}
use Rattle.statement.specs.Statements.{found, live_clients, finding_from, statement_finding}
use Rattle.statement.proofs.Asked.{refused-1, refused-7, refused-8, none-asked}
use Rattle.statement.proofs.check.Goals as goal

-- the row that has the number, at its place in a sound book
module _ (t : Table) (number : ℕ) (s : List ℕ) (holds : sound_b (turned_back t) ≡ true) {place : ℕ} (at : place ≡ place_of (turned_back t) number) where
  live_at : is_live (turned_back t) (place_of (turned_back t) number) ≡ is_live (turned_back t) place
  live_at = ap (is_live (turned_back t)) (sym at)

  beyond : t.count ≤ place → found 7 0 0 ≡ statement_finding (turned_back t) number s
  beyond l = refused-7 (turned_back t) number s holds (live_at ∙ simp (le-ltb place t.count l))

  module _ (l : place < t.count) where
    low : place < 256
    low = let r = sound-test-ranged (turned_back t) holds in omega (arith, r.most)

    row : row_at (turned_back t) place ≡ row_in t.marks t.amounts place
    row = row-in t.marks t.amounts place low

    retired : get_or t.marks.live place false ≡ false → found 7 0 0 ≡ statement_finding (turned_back t) number s
    retired e = refused-7 (turned_back t) number s holds (live_at ∙ simp (ap (λ r. r.live) row ∙ e, and-false))

    module _ (e : get_or t.marks.live place false ≡ true) where
      live : is_live (turned_back t) (place_of (turned_back t) number) ≡ true
      live = live_at ∙ simp (lt-ltb place t.count l, ap (λ r. r.live) row ∙ e)

      sort-at : (row_at (turned_back t) (place_of (turned_back t) number)).sort ≡ get_or t.marks.sort place 0
      sort-at = ap (λ i. (row_at (turned_back t) i).sort) (sym at) ∙ ap (λ r. r.sort) row

      no_tm : (get_or t.marks.sort place 0 ≡ 1 → ⊥) → found 8 0 0 ≡ statement_finding (turned_back t) number s
      no_tm h = refused-8 (turned_back t) number s holds live (λ q. h (sym sort-at ∙ q))

      records : get_or t.marks.sort place 0 ≡ 1 → finding_from (turned_back t) 0 (live_clients (turned_back t) place) s ≡ statement_finding (turned_back t) number s
      records q =
          ap (λ i. finding_from (turned_back t) 0 (live_clients (turned_back t) i) s) at
          ∙ none-asked (turned_back t) number s holds live (sort-at ∙ q)

pub returns-then-not-table_sound : goal.returns-then-not-table_sound
returns-then-not-table_sound c =
    let a = c.args in c.found.ensures ∙ refused-1 (turned_back a.t) a.tm a.statement.now (sym c.table_sound.ensures ∙ not-true _ c.if-not-table_sound.true-raw)

pub place_among-place-requires : goal.place_among-place-requires
place_among-place-requires c =
    let s = sound→ (turned_back c.args.t) (sym c.table_sound.ensures ∙ not-false _ c.if-not-table_sound.false-raw) in
    record { most = s.most; up = s.numbered.rises }

pub returns-then-place-t : goal.returns-then-place-t
returns-then-place-t c =
    let a = c.args in
    let holds = sym c.table_sound.ensures ∙ not-false _ c.if-not-table_sound.false-raw in
    c.found-then-place-t.ensures ∙ beyond a.t a.tm a.statement.now holds c.place_among-place.ensures c.if-place-t.true

pub bounds-t-i : goal.bounds-t-i
bounds-t-i c =
    let a = c.args in
    let holds = sym c.table_sound.ensures ∙ not-false _ c.if-not-table_sound.false-raw in
    low a.t a.tm a.statement.now holds c.place_among-place.ensures c.if-place-t.false

pub returns-then-not-t-i : goal.returns-then-not-t-i
returns-then-not-t-i c =
    let a = c.args in
    let holds = sym c.table_sound.ensures ∙ not-false _ c.if-not-table_sound.false-raw in
    c.found-then-not-t-i.ensures
    ∙ retired a.t a.tm a.statement.now holds c.place_among-place.ensures c.if-place-t.false (not-true _ c.if-not-t-i.true-raw)

pub bounds-t-i-2 : goal.bounds-t-i-2
bounds-t-i-2 c =
    let a = c.args in
    let holds = sym c.table_sound.ensures ∙ not-false _ c.if-not-table_sound.false-raw in
    low a.t a.tm a.statement.now holds c.place_among-place.ensures c.if-place-t.false

pub returns-then-t-i-ne1 : goal.returns-then-t-i-ne1
returns-then-t-i-ne1 c =
    let a = c.args in
    let holds = sym c.table_sound.ensures ∙ not-false _ c.if-not-table_sound.false-raw in
    c.found-then-t-i-ne1.ensures
    ∙ no_tm a.t a.tm a.statement.now holds c.place_among-place.ensures c.if-place-t.false (not-false _ c.if-not-t-i.false-raw) c.if-t-i-ne1.true

pub records_finding-requires : goal.records_finding-requires
records_finding-requires c = sound-test-ranged _ (sym c.table_sound.ensures ∙ not-false _ c.if-not-table_sound.false-raw)

pub returns : goal.returns
returns c =
    let a = c.args in
    let holds = sym c.table_sound.ensures ∙ not-false _ c.if-not-table_sound.false-raw in
    c.records_finding.ensures
    ∙ records a.t a.tm a.statement.now holds c.place_among-place.ensures c.if-place-t.false (not-false _ c.if-not-t-i.false-raw) c.if-t-i-ne1.false
