-- `float_floor::floor`: from zero on and below zero by the parts, and a NaN passes neither test. -1 - k is `negsuc k`. Assumes nothing.
use Rattle.std.proofs.Common.{sym}
use Rattle.float_floor.proofs.BelowZero.{neither}
use Rattle.float_floor.proofs.floor.Goals as goal

pub returns : goal.returns
returns c = sym (neither c.args.x c.if-x.false c.if-x-2.false)
