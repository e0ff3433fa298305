use Rattle.std.proofs.Common.{ℕ, length, ap, ◌∙◌, eq-eqb}
use lib.ListN.{length-replicate}
use Rattle.sums.specs.Choice.{pick}
use Rattle.sums.proofs.Choices.{pick_yes}
use Rattle.bookfile.specs.Written.{size, written_of, room_after}
use Rattle.feed.proofs.books.put_book.Goals as goal

pub returns : goal.returns
unfolding room_after
returns c = c.replace_named.ensures ∙ ap (λ l. pick c.replace_named.result.failed 0 (length l)) (c.write.ensures.room_after ∙ pick_yes _ (written_of _) _ (eq-eqb _ size (length-replicate {A = ℕ} size 0)))
