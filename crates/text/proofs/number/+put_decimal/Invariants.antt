-- `text::number::put_decimal` calls itself with a hundredth of the number, which is the measure.
use Rattle.text.proofs.number.+put_decimal.Given as goal

abbrev pub decreases-put_decimal : goal.decreases-put_decimal
decreases-put_decimal l = l.n
