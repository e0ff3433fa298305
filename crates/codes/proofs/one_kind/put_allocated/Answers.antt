-- `codes::one_kind::put_allocated` meets its contract.
use mathlib.Core.Path.{ap, ◌∙◌}
use Prim.Native.Nat.{◌+◌, ◌*◌}
use lib.ListN.{set}
use Rattle.rows.specs.declared.Row.{Row}
use Rattle.codes.specs.OneKind.{number_of, kind_in}
use Rattle.codes.proofs.OneKind.{put_back}
use Rattle.codes.proofs.one_kind.put_allocated.Goals as goal

pub returns : goal.returns
returns c =
    let n = c in
    let r = n in
    let k = r in
    let a = k.args in
    ap (λ q. set a.w.now (256 * (4 + q) + a.i) c.kind_in.result) n.number_of.ensures.0
    ∙ ap (set a.w.now (256 * (4 + number_of a.kind) + a.i))
    (c.kind_in.ensures ∙ ap (λ (q : Row). kind_in q.allocated a.kind) r.with_allocated-new.ensures ∙ ap (λ q. kind_in q a.kind) k.with_kind.ensures ∙ put_back _ a.kind a.x)
