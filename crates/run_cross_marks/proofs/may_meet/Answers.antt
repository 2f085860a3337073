-- `run_cross_marks::may_meet`: the tests of the definition, in its order. Assumes nothing.
use mathlib.Core.Path.{refl}
use Rattle.run_cross_lines.specs.Pass.{may_meet}
use Rattle.run_cross_marks.proofs.may_meet.Goals as goal

pub returns : goal.returns
unfolding may_meet
returns c = refl
