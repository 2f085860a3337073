-- `run_rows::count_run`: after j cells the sum is what they add. Assumes nothing.
use mathlib.Core.Path.{◌≡◌}
use Rattle.run.specs.Signs.{row_weight}
use Rattle.run_rows.specs.Block.{run_weight}
use Rattle.run_rows.proofs.count_run.Given as goal

abbrev pub invariant-loop-j : goal.invariant-loop-j
invariant-loop-j l = l.sum ≡ run_weight (row_weight l.edition) l.field l.at l.j
