use Rattle.std.proofs.Common.{ℕ, zero, suc, List, ◌≡◌, ◌++◌, ◌≤◌, refl, ap, ◌∙◌, arith}
use Rattle.text.proofs.Puts.{and_then}
use Rattle.report.specs.Reports.{accounts, listed, total_word, refused_word, word_line, loss_lines, close_out_text}
use Rattle.report.proofs.loss.put_close_out.Goals as goal

alone : (refusal total : ℕ) (numbers losses amounts : List ℕ) → 1 ≤ refusal → close_out_text refusal total numbers losses amounts ≡ word_line refused_word refusal
unfolding close_out_text
alone zero total numbers losses amounts h = absurd (omega arith)
alone (suc refusal) total numbers losses amounts h = refl

whole : (refusal total : ℕ) (numbers losses amounts : List ℕ) → refusal ≡ 0
    → close_out_text refusal total numbers losses amounts ≡ loss_lines numbers losses amounts (listed losses amounts) ++ word_line total_word total
unfolding close_out_text
whole zero total numbers losses amounts h = refl
whole (suc refusal) total numbers losses amounts h = absurd (omega arith)

pub returns-then-refusal-ne0 : goal.returns-then-refusal-ne0
unfolding word_line
returns-then-refusal-ne0 c = rw (alone c.args.refusal _ _ _ _ (omega (arith, c.if-refusal-ne0.true))) c.put_labelled.ensures

pub returns : goal.returns
unfolding word_line
returns c =
    let n = c.accounts-n.ensures ∙ ap accounts c.min.ensures in
    rw (whole c.args.refusal _ _ _ _ (omega (arith, c.if-refusal-ne0.false))) (and_then _ _ (rw n at c.put_losses-at.ensures.puts) c.put_labelled-2.ensures)
