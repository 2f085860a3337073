-- `float_order::beyond`: the law `beyond_test` on the two patterns. Assumes nothing.
use Rattle.float.proofs.Order.{bits_no_nan}
use Rattle.float_order.proofs.Farther.{beyond_test}
use Rattle.float_order.proofs.beyond.Goals as goal

pub float_from_bits-result : goal.float_from_bits-result
float_from_bits-result c = bits_no_nan c.args.x c.requires.x_bound

pub float_from_bits-result-2 : goal.float_from_bits-result-2
float_from_bits-result-2 c = bits_no_nan c.args.y c.requires.y_bound

pub returns : goal.returns
returns c = beyond_test c.args.x c.args.y c.requires.x_bound c.requires.y_bound
