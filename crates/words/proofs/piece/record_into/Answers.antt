use Rattle.std.proofs.Common.{sym, ◌∙◌}
use Rattle.dayfile.proofs.RoundTrip.{read_found}
use Rattle.words.proofs.Lines.{known}
use Rattle.words.proofs.RecordPieces.{good-line, end_line, cut_line, bad-line, record-went}
use Rattle.words.proofs.piece.record_into.Goals as goal

pub put_line-after-requires : goal.put_line-after-requires
put_line-after-requires c =
    let q = c in
    let r = q in
    let a = r in
    let k = known _ (read_found a.args.bytes.now 0 (sym r.read_at.ensures.value ∙ q.in-Good.is)).1 in
    (k.0, k.1, a.requires.0)

pub returns-in-Good : goal.returns-in-Good
returns-in-Good c =
    let p = c in
    let q = p in
    let r = q in
    record-went _ _ (good-line _ _ _ r.read_at.ensures.value q.in-Good.is) p.put_line-after.ensures.puts r.moved-next.ensures

pub returns-in-Bad : goal.returns-in-Bad
returns-in-Bad c =
    let p = c in
    let t = p in
    let r = t in
    record-went _ _ (bad-line _ _ _ r.read_at.ensures.value t.in-Bad.is) p.put_raw-after.ensures r.moved-next.ensures

pub returns-in-Cut : goal.returns-in-Cut
returns-in-Cut c =
    let p = c in
    let t = p in
    let r = t in
    record-went _ _ (cut_line _ _ _ r.read_at.ensures.value t.in-Cut.is) p.put_raw-after-in-Cut.ensures r.moved-next.ensures

pub returns-in-End : goal.returns-in-End
returns-in-End c =
    let p = c in
    let t = p in
    let r = t in
    record-went _ _ (end_line _ _ _ r.read_at.ensures.value t.in-End.is) p.put_raw-after-in-End.ensures r.moved-next.ensures
