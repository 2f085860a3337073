-- `run_rows::count_rows`: after each block every row has what is counted of the cells before (`proofs/Blocks.antt`). Assumes nothing.
use Prim.Native.Nat.{◌≤◌}
use lib.ListN.{length}
use Rattle.run.specs.Signs.{row_weight}
use Rattle.run_rows.proofs.Blocks.{Rowed}
use Rattle.run_rows.proofs.count_rows.Given as goal

abbrev pub invariant-loop-start : goal.invariant-loop-start
invariant-loop-start l = (l.start ≤ length l.field) × Rowed (row_weight l.edition) (length l.initial.rows) l.step l.field l.start l.rows
