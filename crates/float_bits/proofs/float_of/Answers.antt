-- `float_bits::float_of` meets its contract. Assumes nothing.
use mathlib.Core.Path.{sym, ◌∙◌}
use Rattle.float.proofs.Signs.{quotient}
use Rattle.float_bits.proofs.Patterns.{nan_of, no_nan}
use Rattle.float_bits.proofs.float_of.Goals as goal

pub returns-then-b-gt2139095040 : goal.returns-then-b-gt2139095040
returns-then-b-gt2139095040 c = quotient ∙ sym (nan_of c.args.b c.if-b-gt2139095040.true)

pub float_from_bits-result : goal.float_from_bits-result
float_from_bits-result c = no_nan c.args.b c.if-b-gt2139095040.false
