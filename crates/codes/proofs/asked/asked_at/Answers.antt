-- `codes::asked::asked_at` meets its contract.
use mathlib.Core.Path.{◌≡◌, sym, ap, ◌∙◌}
use Rattle.codes.specs.Own.{alive_in}
use Rattle.codes.specs.Asking.{meant, asked_of, record_at}
use Rattle.codes.proofs.Asking.{other-serial, unknown-left, meant-own}
use Rattle.codes.proofs.Heading.{unknown}
use Rattle.codes.proofs.asked.asked_at.Goals as goal

pub returns-then-h-serial : goal.returns-then-h-serial
returns-then-h-serial c = let s = c in other-serial _ _ _ (λ e. c.if-h-serial.true (s.requires.1.serial ∙ e))

pub asked_kinds-requires : goal.asked_kinds-requires
asked_kinds-requires c = let s = c in (s.requires.0, sym c.names_kinds.ensures ∙ c.if-names_kinds.true, s.requires.1)

pub returns-then-names_kinds : goal.returns-then-names_kinds
returns-then-names_kinds c =
    let due : (let a = c.args in
    asked_of (alive_in a.live.now a.count a.i) a.h.serial (record_at a.piece.now a.place a.h) ≡ asked_of (alive_in a.live.now a.count a.i) a.serial (record_at a.piece.now a.place a.h)) =
    let a = c.args in ap (λ q. asked_of (alive_in a.live.now a.count a.i) q (record_at a.piece.now a.place a.h)) c.if-h-serial.false
    in c.asked_kinds.ensures ∙ due

pub asked_one-requires : goal.asked_one-requires
asked_one-requires c = let s = c in (s.requires.0, sym c.names_one.ensures ∙ c.if-names_one.true, s.requires.1)

pub returns-then-names_one : goal.returns-then-names_one
returns-then-names_one c =
    let due : (let a = c.args in
    asked_of (alive_in a.live.now a.count a.i) a.h.serial (record_at a.piece.now a.place a.h) ≡ asked_of (alive_in a.live.now a.count a.i) a.serial (record_at a.piece.now a.place a.h)) =
    let a = c.args in ap (λ q. asked_of (alive_in a.live.now a.count a.i) q (record_at a.piece.now a.place a.h)) c.if-h-serial.false
    in ap meant c.asked_one.ensures ∙ meant-own _ _ _ ∙ due

pub asked_none-requires : goal.asked_none-requires
asked_none-requires c = let s = c in (s.requires.0, sym c.names_none.ensures ∙ c.if-names_none.true, s.requires.1)

pub returns-then-names_none : goal.returns-then-names_none
returns-then-names_none c =
    let due : (let a = c.args in
    asked_of (alive_in a.live.now a.count a.i) a.h.serial (record_at a.piece.now a.place a.h) ≡ asked_of (alive_in a.live.now a.count a.i) a.serial (record_at a.piece.now a.place a.h)) =
    let a = c.args in ap (λ q. asked_of (alive_in a.live.now a.count a.i) q (record_at a.piece.now a.place a.h)) c.if-h-serial.false
    in ap meant c.asked_none.ensures ∙ meant-own _ _ _ ∙ due

pub returns : goal.returns
returns c =
    let due : (let a = c.args in
    asked_of (alive_in a.live.now a.count a.i) a.h.serial (record_at a.piece.now a.place a.h) ≡ asked_of (alive_in a.live.now a.count a.i) a.serial (record_at a.piece.now a.place a.h)) =
    let a = c.args in ap (λ q. asked_of (alive_in a.live.now a.count a.i) q (record_at a.piece.now a.place a.h)) c.if-h-serial.false
    in
    let n = c in
    let o = n in
    let k = o in
    let e = k in
    let s = e in
    unknown _ _ _ s.requires.1 _ (unknown-left s.args.h.code (sym k.names_kinds.ensures ∙ k.if-names_kinds.false) (sym o.names_one.ensures ∙ o.if-names_one.false) (sym n.names_none.ensures ∙ c.if-names_none.false))
    ∙ due
