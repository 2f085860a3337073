-- `words::is_real`: only a NaN differs from itself, and the NaN's pattern is 7fc00000. Assumes nothing.
use Rattle.float.proofs.Magnitude.{is_number}
use Rattle.replay_steps.proofs.Floats.{nan_pattern}
use Rattle.replay_steps.proofs.words.is_real.Goals as goal

pub returns-then-x : goal.returns-then-x
returns-then-x c = rw (c.word-w.ensures, nan_pattern _ c.if-x.true)

pub float_to_bits-result : goal.float_to_bits-result
float_to_bits-result c = is_number _ c.if-x.false

pub returns : goal.returns
returns c = rw c.word-w.ensures
