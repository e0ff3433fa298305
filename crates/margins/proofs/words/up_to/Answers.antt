-- `margins::words::up_to` meets its contract.
use Rattle.std.proofs.Common.{length, ap, ◌∙◌}
use Rattle.std.specs.Option.{unwrap_or}
use Rattle.margins.proofs.Parting.{first-mark}
use Rattle.margins.proofs.words.up_to.Goals as goal

pub returns-clause-value : goal.returns-clause-value
returns-clause-value c = c.unwrap_or.ensures ∙ ap (λ o. unwrap_or o (length c.args.text.now)) c.first_place.ensures ∙ first-mark c.args.mark c.args.text.now
