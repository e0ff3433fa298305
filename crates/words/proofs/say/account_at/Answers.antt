use Rattle.words.proofs.Saying.{account-zero, account-is}
use Rattle.words.proofs.say.account_at.Goals as goal

pub returns-then-opens_account-g : goal.returns-then-opens_account-g
returns-then-opens_account-g c =
    let a = c.args in
    account-zero _ a.at a.code _ _ c.short_at-g.ensures c.opens_account.ensures c.if-opens_account-g.true

pub returns : goal.returns
returns c =
    let a = c.args in
    account-is _ a.at a.code _ _ c.short_at-g.ensures c.opens_account.ensures c.if-opens_account-g.false
