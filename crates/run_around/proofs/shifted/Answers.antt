-- `shifted`: each number of the table is the shift that it stands for, and a shift back is made above 0. Assumes nothing.
use native.Mathlib.Omega.{arith}
use borrow.Author.Tests.{ltb-true}
use Rattle.run_around.proofs.Steps.{shift_ahead}
use Rattle.run_around.proofs.shifted.Goals as goal

pub overflow_sub-result : goal.overflow_sub-result
overflow_sub-result c = omega (arith, ltb-true 0 c.args.i (rw c.if-shift-eq0.true at c.requires.1))

pub returns-then-shift-eq0 : goal.returns-then-shift-eq0
returns-then-shift-eq0 c = rw c.if-shift-eq0.true

pub returns : goal.returns
returns c = rw (shift_ahead _ c.if-shift-eq0.false c.if-shift-eq1.false)
