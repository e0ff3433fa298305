-- `codes::settling::deemed_under_after_at` meets its contract: what is deemed under the account, its TM and the CM, each read at its place.
use mathlib.Core.Path.{◌≡◌, sym, ap, ◌∙◌}
use Prim.Native.Nat.{ℕ, ◌<◌}
use native.Mathlib.Omega.{arith}
use lib.ListN.{get_or}
use Rattle.rows.specs.Rows.{account_of}
use Rattle.rows.specs.Facts.{InRange}
use Rattle.codes.specs.Own.{account_in, deemed_under_at, deemed_under_in}
use Rattle.codes.proofs.Made.{under-is, deemed-under-eq}
use Rattle.codes.proofs.settling.deemed_under_after_at.Goals as goal

pub account_of-its-requires : goal.account_of-its-requires
account_of-its-requires c =
    let member-in : InRange c.row_at.result =
    rw c.row_at.ensures (c.requires.0.ranges c.args.old.tm c.requires.1)
    in member-in

pub deemed_under_at-own-requires : goal.deemed_under_at-own-requires
deemed_under_at-own-requires c = c.requires.0.inside

pub deemed_under_at-clients-requires : goal.deemed_under_at-clients-requires
deemed_under_at-clients-requires c = c.requires.1

pub deemed_under_after-requires : goal.deemed_under_after-requires
deemed_under_after-requires c =
    let member-in : InRange c.row_at.result =
    rw c.row_at.ensures (c.requires.0.ranges c.args.old.tm c.requires.1)
    in
    let under : ℕ → ℕ =
    λ j. get_or (deemed_under_in c.args.w.now c.args.needs.now) j 0
    in
    let is-under : (j : ℕ) (x : ℕ) → j < 256 → x ≡ deemed_under_at c.args.w.now c.args.needs.now j → x ≡ under j =
    λ j x l e. e ∙ sym (under-is c.args.w.now c.args.needs.now j l)
    in
    let own_is : (let s = c in c.deemed_under_at-own.result ≡ under s.args.i) =
    let s = c in is-under s.args.i _ s.requires.0.inside c.deemed_under_at-own.ensures
    in
    let clients-are : (let s = c in c.deemed_under_at-clients.result ≡ under s.args.old.tm) =
    let s = c in is-under s.args.old.tm _ s.requires.1 c.deemed_under_at-clients.ensures
    in
    let all-is : (let s = c in c.deemed_under_at-all.result ≡ under 0) =
    let s = c in is-under 0 _ (omega arith) c.deemed_under_at-all.ensures
    in
    let s = c in
    let most = s.requires.0.most in (
      rw own_is (omega (arith, most s.args.i)),
      rw clients-are (omega (arith, most s.args.old.tm)),
      rw all-is (omega (arith, most 0)),
      omega (arith, s.requires),
      omega (arith, s.requires),
      rw c.account_of-its.ensures (omega (arith, member-in.margin)),
    )

pub returns : goal.returns
returns c =
    let member_is : (let a = c.args in c.account_of-its.result ≡ account_in a.marks.now a.w.now a.old.tm) =
    c.account_of-its.ensures ∙ ap account_of c.row_at.ensures
    in
    let under : ℕ → ℕ =
    λ j. get_or (deemed_under_in c.args.w.now c.args.needs.now) j 0
    in
    let is-under : (j : ℕ) (x : ℕ) → j < 256 → x ≡ deemed_under_at c.args.w.now c.args.needs.now j → x ≡ under j =
    λ j x l e. e ∙ sym (under-is c.args.w.now c.args.needs.now j l)
    in
    let own_is : (let s = c in c.deemed_under_at-own.result ≡ under s.args.i) =
    let s = c in is-under s.args.i _ s.requires.0.inside c.deemed_under_at-own.ensures
    in
    let clients-are : (let s = c in c.deemed_under_at-clients.result ≡ under s.args.old.tm) =
    let s = c in is-under s.args.old.tm _ s.requires.1 c.deemed_under_at-clients.ensures
    in
    let all-is : (let s = c in c.deemed_under_at-all.result ≡ under 0) =
    let s = c in is-under 0 _ (omega arith) c.deemed_under_at-all.ensures
    in
    let u = c in
    let a = u.args in
    c.deemed_under_after.ensures ∙ deemed-under-eq a.old a.new own_is clients-are all-is member_is

pub deemed_under_at-all-requires : goal.deemed_under_at-all-requires
deemed_under_at-all-requires c = omega arith
