-- `entries_queue::queue_cells`: the first c cells are queued, each as its batch is. Assumes nothing.
use Rattle.run.specs.Run.{queue_cell}
use Rattle.entries_state.proofs.Loops.{AfterRow}
use Rattle.entries_queue.proofs.queue_cells.Given as goal

abbrev pub invariant-loop-c : goal.invariant-loop-c
invariant-loop-c l = AfterRow queue_cell l.field l.names l.initial.row l.initial.reached l.c l.row l.reached
