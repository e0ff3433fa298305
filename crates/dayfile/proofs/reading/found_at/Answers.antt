-- `dayfile::reading::found_at` meets its contract: no bytes, too few for the mark or for the amounts, or a record; with 70 bytes left every amount is read without a test.
use mathlib.Core.Path.{◌≡◌}
use Prim.Native.Nat.{◌+◌, ◌≤◌}
use native.Mathlib.Omega.{arith}
use lib.ListN.{length, get_or, drop}
use Rattle.dayfile.specs.declared.Record.{Record}
use Rattle.dayfile.specs.declared.Found.TheVariants.{Whole}
use Rattle.dayfile.specs.Reading.{record_of, found_at}
use Rattle.dayfile.proofs.Looking.{found-end, found-one, found-short, found-whole}
use Rattle.dayfile.proofs.Numbers.{found-named}
use Rattle.dayfile.proofs.reading.found_at.Goals as goal

pub returns-then-piece-place : goal.returns-then-piece-place
returns-then-piece-place c =
    let whole = found-named _ _ _ (found-end _ _ c.if-piece-place.true) in
    record { value = whole.0; result_value = whole.1 }

pub returns-then-left-lt2 : goal.returns-then-left-lt2
returns-then-left-lt2 c =
    let whole = found-named _ _ _ (found-one _ _ c.if-piece-place.false c.if-left-lt2.true) in
    record { value = whole.0; result_value = whole.1 }

pub returns-then-left-n : goal.returns-then-left-n
returns-then-left-n c =
    let a = c.args in
    let h : a.place + 2 ≤ length a.piece.now = omega (arith, c.if-piece-place.false, c.if-left-lt2.false) in
    let whole = found-named _ _ _ (found-short a.piece.now a.place h _ c.size-n.ensures c.if-left-n.true) in
    record { value = whole.0; result_value = whole.1 }

pub returns-then-left-ge70 : goal.returns-then-left-ge70
returns-then-left-ge70 c =
    let whole : (let a = c.args in
    (r : Record) → r ≡ record_of (get_or a.piece.now a.place 0) (get_or a.piece.now (a.place + 1) 0) (drop (a.place + 2) a.piece.now)
    → Whole r (a.place + c.size-n.result) ≡ found_at a.piece.now a.place) =
    let m = c in
    let a = m.args in
    let h : a.place + 2 ≤ length a.piece.now = omega (arith, m.if-piece-place.false, m.if-left-lt2.false) in
    found-whole a.piece.now a.place h _ c.size-n.ensures c.if-left-n.false
    in
    let whole = found-named _ _ _ (whole _ c.record_near-record.ensures) in
    record { value = whole.0; result_value = whole.1 }

pub returns : goal.returns
returns c =
    let whole : (let a = c.args in
    (r : Record) → r ≡ record_of (get_or a.piece.now a.place 0) (get_or a.piece.now (a.place + 1) 0) (drop (a.place + 2) a.piece.now)
    → Whole r (a.place + c.size-n.result) ≡ found_at a.piece.now a.place) =
    let m = c in
    let a = m.args in
    let h : a.place + 2 ≤ length a.piece.now = omega (arith, m.if-piece-place.false, m.if-left-lt2.false) in
    found-whole a.piece.now a.place h _ c.size-n.ensures c.if-left-n.false
    in
    let whole = found-named _ _ _ (whole _ c.record_at-record.ensures) in
    record { value = whole.0; result_value = whole.1 }
