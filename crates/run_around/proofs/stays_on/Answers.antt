-- `stays_on`: each number of the table is the shift that it stands for. Assumes nothing.
use Rattle.run_around.proofs.Steps.{shift_ahead}
use Rattle.run_around.proofs.stays_on.Goals as goal

pub returns-then-shift-eq0 : goal.returns-then-shift-eq0
returns-then-shift-eq0 c = rw c.if-shift-eq0.true

pub returns : goal.returns
returns c = rw (shift_ahead _ c.if-shift-eq0.false c.if-shift-eq1.false)
