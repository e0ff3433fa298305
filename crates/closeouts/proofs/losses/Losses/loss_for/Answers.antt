use borrow.Author.Rules.{rules}
use Rattle.closeouts.proofs.Named.{loss-named, loss-not-named}
use Rattle.closeouts.proofs.losses.Losses.loss_for.Goals as goal

pub returns-in-Some : goal.returns-in-Some
returns-in-Some c =
    let l = c.args.self.now in
    loss-named l.numbers l.list l.count c.args.n c.requires (search rules) _ c.in-Some.ensures.0 c.in-Some.ensures.1 (search rules)

pub returns-in-None : goal.returns-in-None
returns-in-None c =
    let l = c.args.self.now in
    loss-not-named l.numbers l.list l.count c.args.n c.requires (search rules) c.in-None.ensures (search rules)
