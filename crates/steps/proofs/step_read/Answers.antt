-- `steps::step_read` meets its contract, likewise.
use Rattle.std.proofs.Common.{refl, ap, ◌∙◌}
use Rattle.rows.specs.Rows.{place_among}
use Rattle.dayfile.specs.declared.Record.{Record}
use Rattle.rules.specs.Numbered.{naming}
use Rattle.codes.specs.Own.{alive_in}
use Rattle.codes.specs.Asking.{record_at}
use Rattle.codes.proofs.Heading.{code_read, asked-elsewhere}
use Rattle.steps.specs.Steps.{Asks}
use Rattle.steps.proofs.step_read.Goals as goal

pub place_among-a-requires : goal.place_among-a-requires
place_among-a-requires c = let s = c.requires.0.sound in record { most = s.most; up = s.numbered.rises }

pub asked_at-asked-requires : goal.asked_at-asked-requires
asked_at-asked-requires c = let s = c in (s.requires.0.sound.most, s.requires.1)

pub step_placed-requires : goal.step_placed-requires
step_placed-requires c =
    let r : Record =
    let a = c.args in naming c.place_among-a.result (record_at a.piece.now a.place a.h)
    in
    let asks : (let a = c.args in Asks (alive_in a.l.now.marks.live a.at.count c.place_among-a.result) a.at.serial (record { code = a.h.code; place = c.place_among-a.result; asked = c.asked_at-asked.result }) r) =
    record {
      coded = let a = c.args in code_read a.piece.now a.place a.h;
      placed = refl;
      is = c.asked_at-asked.ensures ∙ asked-elsewhere _ _ _ _;
    }
    in
    let t = c in
    (t.requires.0, record { of = r; asks = asks })

pub returns : goal.returns
returns c =
    let r : Record =
    let a = c.args in naming c.place_among-a.result (record_at a.piece.now a.place a.h)
    in
    let asks : (let a = c.args in Asks (alive_in a.l.now.marks.live a.at.count c.place_among-a.result) a.at.serial (record { code = a.h.code; place = c.place_among-a.result; asked = c.asked_at-asked.result }) r) =
    record {
      coded = let a = c.args in code_read a.piece.now a.place a.h;
      placed = refl;
      is = c.asked_at-asked.ensures ∙ asked-elsewhere _ _ _ _;
    }
    in
    let t = c in
    let a = t.args in
    rw (← (t.place_among-a.ensures ∙ ap (place_among a.l.now.numbers a.at.count) t.requires.1.account)) (c.step_placed.ensures r asks)
