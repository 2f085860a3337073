-- `float_root::normalised`: a subnormal by `normal_low`, a normal pattern by `normal_high`. Assumes nothing.
use native.Mathlib.Omega.{arith}
use lib.Count.{count_leading_zeros}
use Rattle.float.proofs.Normal.{Shifted, shifted, normal_low, normal_high}
use Rattle.float_root.proofs.normalised.Goals as goal
use Rattle.float_root.proofs.normalised.Goals.{Then-b-lt8388608}

sub : (c : Then-b-lt8388608) → Shifted c.args.b (count_leading_zeros 32 c.args.b)
sub c = shifted c.args.b c.requires.0 c.if-b-lt8388608.true

pub overflow_sub-result-then-b-lt8388608 : goal.overflow_sub-result-then-b-lt8388608
overflow_sub-result-then-b-lt8388608 c = omega (arith, (sub c).many)

pub overflow_sub-result-then-b-lt8388608-2 : goal.overflow_sub-result-then-b-lt8388608-2
overflow_sub-result-then-b-lt8388608-2 c = (sub c).least

pub overflow_add-result : goal.overflow_add-result
overflow_add-result c = omega (arith, (sub c).many, (sub c).few, (sub c).most)

pub returns-then-b-lt8388608 : goal.returns-then-b-lt8388608
returns-then-b-lt8388608 c = normal_low c.args.b c.requires.0 c.if-b-lt8388608.true

pub returns-else-b-lt8388608 : goal.returns-else-b-lt8388608
returns-else-b-lt8388608 c = normal_high c.args.b c.if-b-lt8388608.false c.requires.1
