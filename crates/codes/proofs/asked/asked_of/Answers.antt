-- `codes::asked::asked_of` meets its contract.
use mathlib.Core.Path.{◌≡◌, refl, sym, ap, ◌∙◌}
use Rattle.sums.proofs.Choices.{pick_first, pick_second}
use Rattle.codes.specs.declared.asked.Asked.TheVariants.{One}
use Rattle.codes.specs.Own.{alive_in}
use Rattle.codes.specs.Asking.{asks_of, asked_of}
use Rattle.codes.proofs.Asking.{early-asked, passed-asked}
use Rattle.codes.proofs.asked.asked_of.Goals as goal

pub returns-then-n-ne0 : goal.returns-then-n-ne0
returns-then-n-ne0 c = early-asked _ _ _ _ c.early-n.ensures c.if-n-ne0.true

pub returns-then-names_kinds : goal.returns-then-names_kinds
returns-then-names_kinds c =
    let passed : (let a = c.args in asks_of a.r ≡ asked_of (alive_in a.live.now a.count a.r.account) a.serial a.r) =
    passed-asked _ _ _ _ c.early-n.ensures c.if-n-ne0.false
    in
    let t = c in
    pick_first _ (sym t.names_kinds.ensures ∙ t.if-names_kinds.true) refl ∙ passed

pub returns-then-names_margin : goal.returns-then-names_margin
returns-then-names_margin c =
    let passed : (let a = c.args in asks_of a.r ≡ asked_of (alive_in a.live.now a.count a.r.account) a.serial a.r) =
    passed-asked _ _ _ _ c.early-n.ensures c.if-n-ne0.false
    in
    let t = c in
    let e = t in
    pick_second _ (sym e.names_kinds.ensures ∙ e.if-names_kinds.false)
    (pick_first _ (sym t.names_one.ensures ∙ t.if-names_one.true) (ap One (pick_first _ (sym c.names_margin.ensures ∙ c.if-names_margin.true) refl))) ∙ passed

pub returns-else-names_margin : goal.returns-else-names_margin
returns-else-names_margin c =
    let passed : (let a = c.args in asks_of a.r ≡ asked_of (alive_in a.live.now a.count a.r.account) a.serial a.r) =
    passed-asked _ _ _ _ c.early-n.ensures c.if-n-ne0.false
    in
    let t = c in
    let e = t in
    pick_second _ (sym e.names_kinds.ensures ∙ e.if-names_kinds.false)
    (pick_first _ (sym t.names_one.ensures ∙ t.if-names_one.true) (ap One (pick_second _ (sym c.names_margin.ensures ∙ c.if-names_margin.false) refl))) ∙ passed

pub returns : goal.returns
returns c =
    let passed : (let a = c.args in asks_of a.r ≡ asked_of (alive_in a.live.now a.count a.r.account) a.serial a.r) =
    passed-asked _ _ _ _ c.early-n.ensures c.if-n-ne0.false
    in
    let e = c in
    pick_second _ (sym e.names_kinds.ensures ∙ e.if-names_kinds.false) (pick_second _ (sym c.names_one.ensures ∙ c.if-names_one.false) refl) ∙ passed
