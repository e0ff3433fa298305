use borrow.Author.Rules.{rules}
use Rattle.closeouts.specs.LossLines.{named_by}
use Rattle.closeouts.proofs.Named.{names-twice, names_none, names-more, front-more}
use Rattle.std.proofs.Common.{◌≡◌, ◌<◌, length, take, refl, sym, ◌∙◌, arith}
use Rattle.closeouts.proofs.losses.Losses.put.Goals as goal

pub returns-in-Nothing : goal.returns-in-Nothing
unfolding named_by
returns-in-Nothing c = rw c.in-Nothing.is (record { is = refl; few = c.requires })

pub returns-in-Bad : goal.returns-in-Bad
unfolding named_by
returns-in-Bad c = rw c.in-Bad.is (record { is = refl; few = c.requires })

pub returns-then-is_some : goal.returns-then-is_some
returns-then-is_some c =
    rw c.in-Of.is (record { is = names-twice _ _ _ _ _ c.first_place.ensures c.is_some.ensures c.if-is_some.true; few = c.requires })

pub returns-then-n-eq256 : goal.returns-then-n-eq256
returns-then-n-eq256 c =
    let l = c.args.self.now in
    let fits : length (take l.count l.numbers) ≡ l.count = search rules in
    rw c.in-Of.is (record { is = names_none _ _ _ _ _ c.first_place.ensures c.is_some.ensures c.if-is_some.false (fits ∙ c.if-n-eq256.true); few = c.requires })

pub returns-else-n-eq256 : goal.returns-else-n-eq256
returns-else-n-eq256 c =
    let l = c.args.self.now in
    let few : l.count < 256 = omega (arith, c.requires, c.if-n-eq256.false) in
    let fits : length (take l.count l.numbers) ≡ l.count = search rules in
    let a = front-more l.numbers l.count c.in-Of.account (search rules) in
    let b = front-more l.list l.count c.in-Of.amount (search rules) in
    rw c.in-Of.is (record {
      is = names-more _ _ _ _ _ c.first_place.ensures c.is_some.ensures c.if-is_some.false (omega (arith, few, fits)) ∙ sym (rw (a, b));
      few = omega (arith, few);
    })
