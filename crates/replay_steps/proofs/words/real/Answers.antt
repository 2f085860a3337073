-- `words::real`: a pattern that is at most infinity's is no NaN's, and the sign bit is the sign. Assumes nothing.
use native.Mathlib.Omega.{arith}
use Rattle.float.proofs.Order.{bits_no_nan}
use Rattle.replay_steps.proofs.Floats.{no_number, nan_at, neg_at, plus_at}
use mathlib.Core.Path.{sym, ap, ◌∙◌}
use lib.Ieee.{binary32, of_bits}
use Rattle.replay_steps.proofs.words.real.Goals as goal

pub returns-then-size-gt2139095040 : goal.returns-then-size-gt2139095040
returns-then-size-gt2139095040 c = no_number ∙ sym (nan_at _ c.if-size-gt2139095040.true) ∙ ap (of_bits binary32) c.word-w.ensures

pub float_from_bits-x : goal.float_from_bits-x
float_from_bits-x c = bits_no_nan _ (omega arith)

pub returns-then-size-w : goal.returns-then-size-w
returns-then-size-w c = neg_at _ (omega arith) c.if-size-w.true ∙ ap (of_bits binary32) c.word-w.ensures

pub returns-else-size-w : goal.returns-else-size-w
returns-else-size-w c = plus_at _ c.if-size-w.false ∙ ap (of_bits binary32) c.word-w.ensures
