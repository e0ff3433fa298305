-- `book::take_over` meets its contract: 1 where the old rule's test or its cover fails, and otherwise the needs worked out afresh.
use mathlib.Core.Bool.{Bool, true, ◌&&◌, and-false}
use mathlib.Core.Path.{◌≡◌, refl, sym, ap, subst, ◌∙◌}
use native.Mathlib.Omega.{arith}
use lib.Dec.{leb}
use lib.ListN.{get_or}
use borrow.Author.Rules.{rules}
use borrow.Author.Tests.{lt-leb, le-leb}
use Rattle.sums.proofs.Choices.{and-join, and_left, and_right}
use Rattle.rows.specs.declared.Rule.TheVariants.{Old, New}
use Rattle.rows.specs.View.{need_cm}
use Rattle.rows.specs.declared.Account.{Account}
use Rattle.rows.specs.Rows.{row_at, account_by, view_by}
use Rattle.rows.specs.Facts.{Shaped, NoneBeyond}
use Rattle.rows.specs.Inner.{Ranged}
use Rattle.rows.specs.KeptNeeds.{needs_afresh}
use Rattle.rows.proofs.KeptNeeds.{kept-CM}
use Rattle.table.specs.declared.Table.{Table}
use Rattle.table.specs.Words.{turned_back}
use Rattle.table.specs.Facts.{seen_book}
use Rattle.book.specs.Sound.{formed_b, kept_by, covered_by}
use Rattle.book.specs.Facts.{SoundRows}
use Rattle.book.specs.TakeOver.{sound_by_the_old}
use Rattle.book.proofs.Settled.{none-beyond}
use Rattle.book.proofs.SoundTest.{formed→, kept→}
use Rattle.book.proofs.SeenTable.{seen-by, seen-at, seen-within}
use Rattle.book.proofs.TakeOver.{not_taken, taken}
use Rattle.book.proofs.take_over.Goals as goal

-- well formed, and its needs kept by the old rule
abbrev kept_old : Table → Bool
kept_old t = formed_b (turned_back t) && kept_by Old (turned_back t)

rows : (t : Table) → kept_old t ≡ true → SoundRows (turned_back t)
rows t h = formed→ _ (and_left _ _ h)

ranged : (t : Table) → SoundRows (turned_back t) → Ranged (seen_book t.count t.marks t.amounts)
ranged t s = seen-within t (record { table = s.table; most = s.most; ranges = s.ranges })

-- the test of cover, by the need kept at place 0
covers : (t : Table) {cm : Account} → kept_old t ≡ true → cm ≡ account_by Old (row_at (seen_book 0 t.marks t.amounts) 0)
    → covered_by Old (turned_back t) ≡ leb (get_or t.needs 0 0) cm.collateral
unfolding covered_by
covers t {cm} h e =
    let v = view_by Old (turned_back t) in
    sym (ap (λ n. leb n cm.collateral) (kept→ v t.needs (and_right (formed_b (turned_back t)) (kept_by Old (turned_back t)) h) 0 (omega arith) ∙ kept-CM v)
    ∙ ap (λ (a : Account). leb (need_cm v) a.collateral) (e ∙ seen-at t Old 0))

pub returns-then-not-table_kept : goal.returns-then-not-table_kept
unfolding sound_by_the_old
returns-then-not-table_kept c =
    not_taken c.args.t (record { sorts = search rules; lives = search rules; tms = search rules; words = search rules })
    (ap (λ x. x && covered_by Old (turned_back c.args.t)) (sym c.table_kept.ensures ∙ c.if-not-table_kept.true))

pub account_at-cm-requires : goal.account_at-cm-requires
account_at-cm-requires c =
    let s = rows c.args.t (sym c.table_kept.ensures ∙ c.if-not-table_kept.false) in
    (omega arith, (ranged c.args.t s).ranges 0 s.shaped.some)

pub returns-then-cm-t : goal.returns-then-cm-t
unfolding sound_by_the_old
returns-then-cm-t c =
    let t = c.args.t in
    let holds = sym c.table_kept.ensures ∙ c.if-not-table_kept.false in
    not_taken t (record { sorts = search rules; lives = search rules; tms = search rules; words = search rules })
    (ap (λ x. kept_old t && x) (covers t holds c.account_at-cm.ensures ∙ lt-leb _ _ c.if-cm-t.true) ∙ and-false (kept_old t))

pub needs_afresh-requires : goal.needs_afresh-requires
needs_afresh-requires c =
    let t = c.args.t in
    let s = rows t (sym c.table_kept.ensures ∙ c.if-not-table_kept.false) in
    let same = sym (seen-by t New) in
    (ranged t s, subst Shaped same s.shaped, subst NoneBeyond same (none-beyond _ s), refl)

pub returns : goal.returns
unfolding sound_by_the_old
returns c =
    let t = c.args.t in
    let holds = sym c.table_kept.ensures ∙ c.if-not-table_kept.false in
    taken t (record { sorts = search rules; lives = search rules; tms = search rules; words = search rules }) _
    (and-join holds (covers t holds c.account_at-cm.ensures ∙ le-leb _ _ c.if-cm-t.false)) (c.needs_afresh.ensures ∙ ap needs_afresh (seen-by t New))
