-- `rows::deemed::deemed_under_cm` meets its contract: of an account that is no client nothing moves under its TM; otherwise four parts, none of which passes a word.
use Prim.Native.Nat.{◌+◌, ◌≤◌}
use native.Mathlib.Omega.{arith}
use borrow.Author.Tests.{not-true}
use Rattle.sums.proofs.Choices.{and_split}
use Rattle.rows.proofs.NeedSums.{due-most, member-most, no-client-moves}
use Rattle.rows.proofs.deemed.deemed_under_cm.Goals as goal

pub overflow_add-all : goal.overflow_add-all
overflow_add-all c =
    let start = c in
    omega (arith, c.member_due.ensures, member-most start.args.new start.args.under, start.requires)

pub returns-then-old-new : goal.returns-then-old-new
returns-then-old-new c =
    let start = c in
    let a = start.args in
    let f = and_split _ _ c.if-old-new.true in
    let e = no-client-moves a.old a.new a.tm a.under a.clients a.all (not-true _ f.0) (not-true _ f.1) in
    omega (arith, e, c.less.ensures, c.member_due-then-old-new.ensures, c.member_due.ensures)

pub member_due-come-requires : goal.member_due-come-requires
member_due-come-requires c =
    let after-most : c.deemed_under_tm-after.result ≤ 30_000_000_000_000_000 =
    let start = c in
    omega (arith, c.deemed_under_tm-after.ensures, due-most start.args.new, start.requires)
    in (c.requires.margin_bound.2, after-most)

pub overflow_add-come : goal.overflow_add-come
overflow_add-come c =
    let after-most : c.deemed_under_tm-after.result ≤ 30_000_000_000_000_000 =
    let start = c in
    omega (arith, c.deemed_under_tm-after.ensures, due-most start.args.new, start.requires)
    in
    let come-most : c.member_due-own_come.result + c.member_due-come.result ≤ 61_000_000_000_000_000 =
    let start = c in
    let a = start.args in
    omega (
      arith,
      c.member_due-own_come.ensures,
      c.member_due-come.ensures,
      member-most a.new a.under,
      member-most a.tm c.deemed_under_tm-after.result,
      after-most,
      start.requires,
    )
    in omega (arith, come-most)

pub overflow_add-all-2 : goal.overflow_add-all-2
overflow_add-all-2 c =
    let after-most : c.deemed_under_tm-after.result ≤ 30_000_000_000_000_000 =
    let start = c in
    omega (arith, c.deemed_under_tm-after.ensures, due-most start.args.new, start.requires)
    in
    let come-most : c.member_due-own_come.result + c.member_due-come.result ≤ 61_000_000_000_000_000 =
    let start = c in
    let a = start.args in
    omega (
      arith,
      c.member_due-own_come.ensures,
      c.member_due-come.ensures,
      member-most a.new a.under,
      member-most a.tm c.deemed_under_tm-after.result,
      after-most,
      start.requires,
    )
    in omega (arith, come-most, c.requires.under_bound)

pub overflow_add-gone : goal.overflow_add-gone
overflow_add-gone c =
    let gone-most : c.member_due-own_gone.result + c.member_due-gone.result ≤ 61_000_000_000_000_000 =
    let start = c in
    let a = start.args in
    omega (
      arith,
      c.member_due-own_gone.ensures,
      c.member_due-gone.ensures,
      member-most a.old a.under,
      member-most a.tm a.clients,
      start.requires,
    )
    in omega (arith, gone-most)

pub returns : goal.returns
returns c = cc
