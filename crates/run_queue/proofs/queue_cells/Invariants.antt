-- `queue_cells`: the loop's turns are those of queueing, one for each cell. Assumes nothing.
use Rattle.run.specs.Run.{queue_cell}
use Rattle.run_state.proofs.Loops.{After}
use Rattle.run_queue.proofs.queue_cells.Given as goal

abbrev pub invariant-loop-c : goal.invariant-loop-c
invariant-loop-c l =
    After queue_cell l.field l.names l.initial.distances l.initial.cells l.initial.triangles l.initial.reached l.c l.field l.names l.distances l.cells l.triangles l.reached
