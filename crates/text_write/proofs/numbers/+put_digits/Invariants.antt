-- `text_write::numbers::put_digits` calls itself with one digit less: the measure is k.
use Rattle.text_write.proofs.numbers.+put_digits.Given as goal

abbrev pub decreases-put_digits : goal.decreases-put_digits
decreases-put_digits l = l.k
