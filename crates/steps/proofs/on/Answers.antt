-- `steps::on` meets its contract.
use Rattle.std.proofs.Common.{◌≡◌, Bool, true, false, ◌&&◌, refl, ap, eq-eqb, ne_eqb}
use Rattle.steps.specs.declared.At.{At}
use Rattle.steps.proofs.on.Goals as goal

kept : (w : Bool) {t : Bool} → t ≡ true → w ≡ (w && t)
kept true e = rw e
kept false e = refl

gone : (w : Bool) {t : Bool} → t ≡ false → false ≡ (w && t)
gone true e = rw e
gone false e = refl

pub returns-then-gone-eq0 : goal.returns-then-gone-eq0
returns-then-gone-eq0 c =
    let a = c.args in
    ap {B = At} (λ w. record { count = a.gone.count; serial = a.gone.serial; next = a.gone.next; waiting = w }) (kept a.at.waiting (eq-eqb _ _ c.if-gone-eq0.true))

pub returns-else-gone-eq0 : goal.returns-else-gone-eq0
returns-else-gone-eq0 c =
    let a = c.args in
    ap {B = At} (λ w. record { count = a.gone.count; serial = a.gone.serial; next = a.gone.next; waiting = w }) (gone a.at.waiting (ne_eqb _ _ c.if-gone-eq0.false))
