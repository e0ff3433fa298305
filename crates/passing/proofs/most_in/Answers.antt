-- `passing::most_in` meets its contract: 4, 5, 7 for a number that no row held has, 7 for a retired account, or what the account's limits give.
use mathlib.Core.Bool.{true, false, and-false}
use mathlib.Core.Path.{◌≡◌, sym, ap, ◌∙◌}
use Prim.Native.Nat.{ℕ}
use native.Mathlib.Omega.{arith}
use borrow.Author.Tests.{lt-ltb, le-ltb, not-true, not-false}
use Rattle.rows.specs.declared.Book.{Book}
use Rattle.rows.specs.Rows.{row_at, place_of, is_live}
use Rattle.table.specs.declared.Marks.{Marks}
use Rattle.table.specs.Words.{book_from, row_in}
use Rattle.table.proofs.Gathered.{row-in}
use Rattle.book.specs.Facts.{Sound}
use Rattle.book.proofs.SoundTest.{sound←}
use Rattle.dayfile.specs.declared.Record.{Record}
use Rattle.passing.specs.Most.{least_of, has_amount, names_one}
use Rattle.passing.specs.Inner.{limits_in, largest_by}
use Rattle.passing.proofs.OfBook.{within, limits-by}
use Rattle.passing.proofs.Exactly.{numbered, most-by, no-amount, no-mark, not_live}
use Rattle.passing.proofs.most_in.Goals as goal

pub returns-then-not-has_amount : goal.returns-then-not-has_amount
returns-then-not-has_amount c serial next s =
    let marks : Marks =
    c.args.marks.now
    in
    let book : ℕ → ℕ → Book =
    λ serial next. book_from c.args.count serial marks c.args.w.now c.args.modes.now c.args.needs.now next c.args.numbers.now
    in
    let asked : Record =
    c.args.«record»
    in
    let a = c in
    c.refused.ensures ∙ sym (no-amount (book serial next) asked (sound← _ s) (sym c.has_amount.ensures ∙ not-true _ c.if-not-has_amount.true-raw))

pub returns-then-not-names_one : goal.returns-then-not-names_one
returns-then-not-names_one c serial next s =
    let marks : Marks =
    c.args.marks.now
    in
    let book : ℕ → ℕ → Book =
    λ serial next. book_from c.args.count serial marks c.args.w.now c.args.modes.now c.args.needs.now next c.args.numbers.now
    in
    let asked : Record =
    c.args.«record»
    in
    let has : has_amount asked.code ≡ true =
    sym c.has_amount.ensures ∙ not-false _ c.if-not-has_amount.false-raw
    in
    let e = c in
    let a = e in
    c.refused-then-not-names_one.ensures ∙ sym (no-mark (book serial next) asked (sound← _ s) has (sym c.names_one.ensures ∙ not-true _ c.if-not-names_one.true-raw))

pub place_among-place-requires : goal.place_among-place-requires
place_among-place-requires c =
    let s = c.requires.sound in
    record { most = s.most; up = s.numbered.rises }

pub returns-then-place-count : goal.returns-then-place-count
returns-then-place-count c serial next s =
    let marks : Marks =
    c.args.marks.now
    in
    let book : ℕ → ℕ → Book =
    λ serial next. book_from c.args.count serial marks c.args.w.now c.args.modes.now c.args.needs.now next c.args.numbers.now
    in
    let asked : Record =
    c.args.«record»
    in
    let place : ℕ =
    c.place_among-place.result
    in
    let has : has_amount asked.code ≡ true =
    sym c.has_amount.ensures ∙ not-false _ c.if-not-has_amount.false-raw
    in
    let names : names_one asked.code asked.named ≡ true =
    sym c.names_one.ensures ∙ not-false _ c.if-not-names_one.false-raw
    in
    let dead : (serial next : ℕ) → (let b = book serial next in is_live b place ≡ false → is_live b (place_of b asked.account) ≡ false) =
    λ serial next e. ap (is_live (book serial next)) (sym c.place_among-place.ensures) ∙ e
    in
    let at = c in
    let a = at in
    c.refused-then-place-count.ensures
    ∙ sym (not_live (book serial next) asked (sound← _ s) has names
    (dead serial next (simp (le-ltb place a.args.count c.if-place-count.true))))

pub bounds-marks-i : goal.bounds-marks-i
bounds-marks-i c = omega (arith, c.requires.sound.most, c.if-place-count.false)

pub returns-then-not-marks-i : goal.returns-then-not-marks-i
returns-then-not-marks-i c serial next s =
    let marks : Marks =
    c.args.marks.now
    in
    let book : ℕ → ℕ → Book =
    λ serial next. book_from c.args.count serial marks c.args.w.now c.args.modes.now c.args.needs.now next c.args.numbers.now
    in
    let asked : Record =
    c.args.«record»
    in
    let has : has_amount asked.code ≡ true =
    sym c.has_amount.ensures ∙ not-false _ c.if-not-has_amount.false-raw
    in
    let names : names_one asked.code asked.named ≡ true =
    sym c.names_one.ensures ∙ not-false _ c.if-not-names_one.false-raw
    in
    let place : ℕ =
    c.place_among-place.result
    in
    let dead : (serial next : ℕ) → (let b = book serial next in is_live b place ≡ false → is_live b (place_of b asked.account) ≡ false) =
    λ serial next e. ap (is_live (book serial next)) (sym c.place_among-place.ensures) ∙ e
    in
    let row : (serial next : ℕ) → (let a = c in row_at (book serial next) place ≡ row_in marks a.args.w.now place) =
    λ serial next. let a = c in
    row-in marks a.args.w.now place (omega (arith, a.requires.sound.most, c.if-place-count.false))
    in
    let g = c in
    let at = g in
    let a = at in
    c.refused-then-not-marks-i.ensures
    ∙ sym (not_live (book serial next) asked (sound← _ s) has names
    (dead serial next (simp (ap (λ r. r.live) (row serial next) ∙ not-true _ c.if-not-marks-i.true-raw, and-false))))

pub limits_at-l-requires : goal.limits_at-l-requires
limits_at-l-requires c =
    let place : ℕ =
    c.place_among-place.result
    in let g = c in let p = g.requires in within _ _ _ _ _ _ _ _ p.sound place g.if-place-count.false

pub largest_by-requires : goal.largest_by-requires
largest_by-requires c =
    let marks : Marks =
    c.args.marks.now
    in
    let book : ℕ → ℕ → Book =
    λ serial next. book_from c.args.count serial marks c.args.w.now c.args.modes.now c.args.needs.now next c.args.numbers.now
    in
    let asked : Record =
    c.args.«record»
    in
    let place : ℕ =
    c.place_among-place.result
    in
    let are : (serial next : ℕ) → (let at = c in let a = at in
    Sound (book serial next) → c.limits_at-l.result ≡ limits_in (book serial next) place asked.code asked.named) =
    λ serial next s. let g = c in
    let a = g in
    c.limits_at-l.ensures ∙ limits-by _ _ _ _ _ _ _ _ s place g.if-place-count.false asked.code asked.named
    in
    let at = c in
    let a = at in
    let p = a.requires in
    rw (are p.serial p.next p.sound) (numbered (book p.serial p.next) place asked.code asked.named)

pub returns : goal.returns
returns c serial next s =
    let marks : Marks =
    c.args.marks.now
    in
    let book : ℕ → ℕ → Book =
    λ serial next. book_from c.args.count serial marks c.args.w.now c.args.modes.now c.args.needs.now next c.args.numbers.now
    in
    let asked : Record =
    c.args.«record»
    in
    let place : ℕ =
    c.place_among-place.result
    in
    let has : has_amount asked.code ≡ true =
    sym c.has_amount.ensures ∙ not-false _ c.if-not-has_amount.false-raw
    in
    let names : names_one asked.code asked.named ≡ true =
    sym c.names_one.ensures ∙ not-false _ c.if-not-names_one.false-raw
    in
    let row : (serial next : ℕ) → (let a = c in row_at (book serial next) place ≡ row_in marks a.args.w.now place) =
    λ serial next. let a = c in
    row-in marks a.args.w.now place (omega (arith, a.requires.sound.most, c.if-place-count.false))
    in
    let are : (serial next : ℕ) → (let at = c in let a = at in
    Sound (book serial next) → c.limits_at-l.result ≡ limits_in (book serial next) place asked.code asked.named) =
    λ serial next s. let g = c in
    let a = g in
    c.limits_at-l.ensures ∙ limits-by _ _ _ _ _ _ _ _ s place g.if-place-count.false asked.code asked.named
    in
    let l = c in
    let v = l in
    let g = v in
    let at = g in
    let a = at in
    let b = book serial next in
    let r = asked in
    let e = at.place_among-place.ensures in
    let there : is_live b (place_of b r.account) ≡ true =
    ap (is_live b) (sym e) ∙ simp (lt-ltb place b.count g.if-place-count.false, ap (λ x. x.live) (row serial next) ∙ not-false _ v.if-not-marks-i.false-raw) in
    c.largest_by.ensures
    ∙ ap (λ z. largest_by z c.least_of.result) (are serial next s)
    ∙ ap (largest_by (limits_in b place r.code r.named)) c.least_of.ensures
    ∙ ap (λ p. largest_by (limits_in b p r.code r.named) (least_of r.code)) e
    ∙ sym (most-by b r (record { sound = s; code = has; mark = names; live = there }))
