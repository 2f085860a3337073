-- `run_rows::add_runs`: the loop fills the rows from the front with what they held and what the layer's run adds. Assumes nothing.
use Rattle.lists.specs.Table.{Filled}
use Rattle.run.specs.Signs.{row_weight}
use Rattle.run_rows.proofs.Blocks.{more}
use Rattle.run_rows.proofs.add_runs.Given as goal

abbrev pub invariant-loop-n : goal.invariant-loop-n
invariant-loop-n l = Filled 0 (more (row_weight l.edition) l.field l.start l.step l.initial.rows) l.initial.rows l.n l.rows
