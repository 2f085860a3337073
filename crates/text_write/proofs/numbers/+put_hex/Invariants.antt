-- `text_write::numbers::put_hex` calls itself with one digit less: the measure is k.
use Rattle.text_write.proofs.numbers.+put_hex.Given as goal

abbrev pub decreases-put_hex : goal.decreases-put_hex
decreases-put_hex l = l.k
