-- `words::byte`: its two digits. Assumes nothing.
use native.Mathlib.Omega.{arith}
use Rattle.replay_steps.specs.Words.{sample_byte}
use Rattle.replay_steps.proofs.words.byte.Goals as goal

pub returns : goal.returns
unfolding sample_byte
returns c = (omega arith, rw (c.digit-2.ensures.1, c.digit.ensures.1))
