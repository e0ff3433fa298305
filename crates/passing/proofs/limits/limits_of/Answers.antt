-- `passing::limits::limits_of` meets its contract.
use mathlib.Core.Path.{refl, ◌∙◌}
use Rattle.sums.specs.Choice.{pick}
use Rattle.passing.proofs.ByCode.{of_code, of_other}
use Rattle.passing.proofs.limits.limits_of.Goals as goal

pub returns-in-4 : goal.returns-in-4
unfolding pick
returns-in-4 c =
    let a = c.args in
    of_code a.code a.named a.row a.on a.spare a.raised 4 c.in-4.is (rw (c.up_to.ensures, c.less.ensures, c.kind_named.ensures))

pub returns-in-5 : goal.returns-in-5
unfolding pick
returns-in-5 c =
    let a = c.args in
    of_code a.code a.named a.row a.on a.spare a.raised 5 c.in-5.is c.left_of.ensures

pub returns-in-6 : goal.returns-in-6
unfolding pick
returns-in-6 c =
    let a = c.args in
    of_code a.code a.named a.row a.on a.spare a.raised 6 c.in-6.is c.left_of-in-6.ensures

pub returns-in-7 : goal.returns-in-7
unfolding pick
returns-in-7 c =
    let a = c.args in
    of_code a.code a.named a.row a.on a.spare a.raised 7 c.in-7.is (rw (c.takeable_of.ensures, c.kind_named-in-7.ensures))

pub returns-in-8 : goal.returns-in-8
unfolding pick
returns-in-8 c =
    let a = c.args in
    of_code a.code a.named a.row a.on a.spare a.raised 8 c.in-8.is (rw (c.up_to-in-8.ensures, c.less-in-8.ensures))

pub returns-in-9 : goal.returns-in-9
unfolding pick
returns-in-9 c =
    let a = c.args in
    of_code a.code a.named a.row a.on a.spare a.raised 9 c.in-9.is (refl)

pub returns-in-10 : goal.returns-in-10
unfolding pick
returns-in-10 c =
    let a = c.args in
    of_code a.code a.named a.row a.on a.spare a.raised 10 c.in-10.is c.up_to-in-10.ensures

pub returns-in_default : goal.returns-in_default
returns-in_default c =
    let a = c.args in
    let g = c.in_default.in_default-own.rest in
    c.up_to-in_default.ensures ∙ of_other a.code a.named a.row a.on a.spare a.raised g.0.0.0.0.0.0.1 g.0.0.0.0.0.1 g.0.0.0.0.1 g.0.0.0.1 g.0.0.1 g.0.1 g.1
