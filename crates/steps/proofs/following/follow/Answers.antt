-- `steps::following::follow` meets its contract.
use Rattle.std.proofs.Common.{◌≡◌, ℕ, ◌+◌, ◌-◌, ◌*◌, Bool, false, List, get_or, set, sym, refl, ap, ◌∙◌, inl, inr, arith, rules}
use Rattle.sums.specs.Choice.{pick}
use Rattle.rows.specs.Modes.{mode_after}
use Rattle.table.specs.Words.{word_at}
use Rattle.steps.specs.declared.Lent.{Lent}
use Rattle.steps.specs.declared.following.Due.{Due}
use Rattle.steps.specs.Steps.{modes_in}
use Rattle.steps.specs.Dues.{Following, collateral_in, due_of, has_need}
use Rattle.steps.proofs.Lifting.{same-dues}
use Rattle.steps.proofs.CarriedUp.{put1, gone, come, collateral-fits, top-put, its-put, small_put, stay, up, further}
use Rattle.steps.proofs.following.follow.Goals as goal

-- what the account leaves before and after, and the arrays with its own place put
module _ (lent : Lent) (waiting : Bool) (was : List Bool) (i m0 : ℕ) (h : Following lent (modes_in waiting was lent.modes) i m0)
    {m1 c1 under : ℕ} (em : m1 ≡ word_at lent.words 9 i) (ec : c1 ≡ collateral_in lent.words i) (eu : under ≡ get_or lent.needs i 0 - m0) where
  put-is : {k : Lent} → k ≡ record lent {
    kept = set lent.kept i c1;
    needs = pick (has_need lent.marks i) (set lent.needs i (m1 + under)) lent.needs;
    modes = pick (has_need lent.marks i) (set lent.modes i (mode_after (10 * m1 + get_or lent.excess i 0) c1 (get_or (modes_in waiting was lent.modes) i false))) lent.modes;
  } → k ≡ put1 lent waiting was i m0 h
  put-is e = e ∙ rw (em, ec, eu) refl

  gone-is : {d : Due} → d ≡ due_of m0 under (get_or lent.excess i 0) (get_or lent.kept i 0) → d ≡ gone lent waiting was i m0 h
  gone-is e = e ∙ rw eu refl

  come-is : {d : Due} → d ≡ due_of m1 under (get_or lent.excess i 0) c1 → d ≡ come lent waiting was i m0 h
  come-is e = e ∙ rw (em, ec, eu) refl

pub due_of-new-requires : goal.due_of-new-requires
due_of-new-requires c =
    let h = c.requires in
    (rw c.word_at-m1.ensures h.margin, rw c.less-under.ensures (omega (arith, h.under)), omega (arith, h.over), rw c.collateral_at-c1.ensures (collateral-fits _ _ _ _ _ h))

pub put_own-requires : goal.put_own-requires
put_own-requires c =
    let h = c.requires in
    (h.ranging.inside, rw c.word_at-m1.ensures (omega (arith, h.margin, h.over)), rw c.collateral_at-c1.ensures (collateral-fits _ _ _ _ _ h))

pub returns-then-i-eq0 : goal.returns-then-i-eq0
returns-then-i-eq0 c =
    let h = c.requires in
    let a = c.args in
    let em = c.word_at-m1.ensures in
    let ec = c.collateral_at-c1.ensures in
    let eu = c.less-under.ensures in
    stay _ _ _ _ _ h (put-is _ _ _ _ _ h em ec eu c.put_own.ensures) (gone-is _ _ _ _ _ h em ec eu c.due_of-old.ensures) (come-is _ _ _ _ _ h em ec eu c.due_of-new.ensures) (inl c.if-i-eq0.true)

pub returns-then-same_due : goal.returns-then-same_due
returns-then-same_due c =
    let h = c.requires in
    let em = c.word_at-m1.ensures in
    let ec = c.collateral_at-c1.ensures in
    let eu = c.less-under.ensures in
    stay _ _ _ _ _ h (put-is _ _ _ _ _ h em ec eu c.put_own.ensures) (gone-is _ _ _ _ _ h em ec eu c.due_of-old.ensures) (come-is _ _ _ _ _ h em ec eu c.due_of-new.ensures) (inr (same-dues (sym c.same_due.ensures ∙ c.if-same_due.true)))

pub rise-requires : goal.rise-requires
rise-requires c =
    let h = c.requires in
    let em = c.word_at-m1.ensures in
    let ec = c.collateral_at-c1.ensures in
    let eu = c.less-under.ensures in
    let e = put-is _ _ _ _ _ h em ec eu c.put_own.ensures in
    let go = gone-is _ _ _ _ _ h em ec eu c.due_of-old.ensures in
    let co = come-is _ _ _ _ _ h em ec eu c.due_of-new.ensures in
    let f = (top-put _ _ _ _ _ h e go co c.if-i-eq0.false).fits in
    let d = small_put _ _ _ _ _ h e go co in
    (search rules, search rules)

pub returns-then-t-eq0 : goal.returns-then-t-eq0
returns-then-t-eq0 c =
    let h = c.requires in
    let em = c.word_at-m1.ensures in
    let ec = c.collateral_at-c1.ensures in
    let eu = c.less-under.ensures in
    let e = put-is _ _ _ _ _ h em ec eu c.put_own.ensures in
    let go = gone-is _ _ _ _ _ h em ec eu c.due_of-old.ensures in
    let co = come-is _ _ _ _ _ h em ec eu c.due_of-new.ensures in
    let place_is : c.as_place-t.result ≡ get_or c.args.l.now.marks.tm c.args.i 0 = c.as_place-t.ensures ∙ ap (λ q. get_or q.marks.tm c.args.i 0) e in
    up _ _ _ _ _ h e go co c.if-i-eq0.false (sym place_is ∙ c.if-t-eq0.true) c.rise.ensures

pub lift-requires : goal.lift-requires
lift-requires c =
    let h = c.requires in
    let em = c.word_at-m1.ensures in
    let ec = c.collateral_at-c1.ensures in
    let eu = c.less-under.ensures in
    let e = put-is _ _ _ _ _ h em ec eu c.put_own.ensures in
    let go = gone-is _ _ _ _ _ h em ec eu c.due_of-old.ensures in
    let co = come-is _ _ _ _ _ h em ec eu c.due_of-new.ensures in
    let place_is : c.as_place-t.result ≡ get_or c.args.l.now.marks.tm c.args.i 0 = c.as_place-t.ensures ∙ ap (λ q. get_or q.marks.tm c.args.i 0) e in
    let f = its-put _ _ _ _ _ h e go co c.if-i-eq0.false place_is c.if-t-eq0.false in
    (f.0, top-put _ _ _ _ _ h e go co c.if-i-eq0.false, small_put _ _ _ _ _ h e go co, f.1)

pub returns : goal.returns
returns c =
    let h = c.requires in
    let em = c.word_at-m1.ensures in
    let ec = c.collateral_at-c1.ensures in
    let eu = c.less-under.ensures in
    let e = put-is _ _ _ _ _ h em ec eu c.put_own.ensures in
    let go = gone-is _ _ _ _ _ h em ec eu c.due_of-old.ensures in
    let co = come-is _ _ _ _ _ h em ec eu c.due_of-new.ensures in
    let place_is : c.as_place-t.result ≡ get_or c.args.l.now.marks.tm c.args.i 0 = c.as_place-t.ensures ∙ ap (λ q. get_or q.marks.tm c.args.i 0) e in
    further _ _ _ _ _ h e go co c.if-i-eq0.false place_is c.if-t-eq0.false c.lift.ensures
