-- `book::amount_sum` meets its contract: 1, or the words of that amount added up, which are the old order's rows'.
use mathlib.Core.Path.{sym, ap, ◌∙◌}
use Rattle.table.specs.Words.{turned_back}
use Rattle.table.specs.Inner.{amount_sum}
use Rattle.table.proofs.EveningSums.{capped-in}
use Rattle.book.specs.Inner.{amount_number}
use Rattle.book.proofs.RowTests.{sound-test-ranged}
use Rattle.book.proofs.EveningAnswers.{unsound-evening, sound-evening, number-below, number-sum}
use Rattle.book.proofs.amount_sum.Goals as goal

pub returns-then-not-table_sound : goal.returns-then-not-table_sound
returns-then-not-table_sound c = sym (unsound-evening (turned_back c.args.t) c.args.amount (sym c.table_sound.ensures ∙ c.if-not-table_sound.true))

pub amount_sum-total-requires : goal.amount_sum-total-requires
amount_sum-total-requires c =
    let t = c.args.t in
    let a = c.args.amount in
    let r = sound-test-ranged (turned_back t) (sym c.table_sound.ensures ∙ c.if-not-table_sound.false) in
    rw c.amount_number-k.ensures (number-below a, r.most, capped-in t.marks t.amounts (amount_number a) t.count (number-below a) r.most r.ranges)

pub returns : goal.returns
returns c =
    let t = c.args.t in
    let a = c.args.amount in
    let holds = sym c.table_sound.ensures ∙ c.if-not-table_sound.false in
    let r = sound-test-ranged (turned_back t) holds in
    let total = c.amount_sum-total.ensures ∙ ap (λ k. amount_sum t.amounts k t.count) c.amount_number-k.ensures ∙ number-sum t a r.most in
    ap (λ n. record { refusal = 0; total = n }) total ∙ sym (sound-evening (turned_back t) a holds)
