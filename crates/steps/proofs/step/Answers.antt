-- `steps::step` meets its contract: the record is the one named, its account told by the place that was looked up.
use Rattle.std.proofs.Common.{refl, ap, ◌∙◌}
use Rattle.dayfile.specs.declared.Record.{Record}
use Rattle.rules.specs.Numbered.{naming}
use Rattle.codes.specs.Own.{alive_in}
use Rattle.codes.specs.Asking.{meant, asked_of}
use Rattle.codes.proofs.Asking.{meant-own}
use Rattle.steps.specs.Steps.{Asks}
use Rattle.steps.proofs.step.Goals as goal

pub place_among-a-requires : goal.place_among-a-requires
place_among-a-requires c = let s = c.requires.sound in record { most = s.most; up = s.numbered.rises }

pub asked_of-asked-requires : goal.asked_of-asked-requires
asked_of-asked-requires c = c.requires.sound.most

pub step_placed-requires : goal.step_placed-requires
step_placed-requires c =
    let r : Record =
    naming c.place_among-a.result c.args.r
    in
    let asks : (let a = c.args in Asks (alive_in a.l.now.marks.live a.at.count c.place_among-a.result) a.at.serial (record { code = a.r.code; place = c.place_among-a.result; asked = c.asked_of-asked.result }) r) =
    record {
      coded = refl;
      placed = refl;
      is = let a = c.args in ap meant c.asked_of-asked.ensures ∙ meant-own _ _ _ ∙ ap (λ (q : Record). asked_of (alive_in a.l.now.marks.live a.at.count q.account) a.at.serial q) c.naming.ensures;
    }
    in
    let t = c in
    (t.requires, record { of = r; asks = asks })

pub returns : goal.returns
returns c =
    let r : Record =
    naming c.place_among-a.result c.args.r
    in
    let asks : (let a = c.args in Asks (alive_in a.l.now.marks.live a.at.count c.place_among-a.result) a.at.serial (record { code = a.r.code; place = c.place_among-a.result; asked = c.asked_of-asked.result }) r) =
    record {
      coded = refl;
      placed = refl;
      is = let a = c.args in ap meant c.asked_of-asked.ensures ∙ meant-own _ _ _ ∙ ap (λ (q : Record). asked_of (alive_in a.l.now.marks.live a.at.count q.account) a.at.serial q) c.naming.ensures;
    }
    in
    let t = c in
    rw (← t.place_among-a.ensures) (c.step_placed.ensures r asks)
