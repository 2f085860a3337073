-- `queue_cell`: the test is the definition's, and the entry is what the cell holds. Assumes nothing.
use native.Mathlib.Omega.{arith}
use Rattle.run.proofs.Ways.{less_no_nan}
use Rattle.run_queue.proofs.Queues.{cell_passed, cell_queued}
use Rattle.run_queue.proofs.queue_cell.Goals as goal

pub key_of-distance-requires : goal.key_of-distance-requires
key_of-distance-requires c = less_no_nan _ _ c.if-d.true

pub overflow_cast-cell : goal.overflow_cast-cell
overflow_cast-cell c =
    omega (arith, c.requires.number_value.3)

pub returns-then-d : goal.returns-then-d
returns-then-d c =
    cell_queued _ c.if-d.true c.key_of-distance.ensures c.enqueue.ensures

pub returns : goal.returns
returns c = cell_passed _ c.requires.held c.requires.number_value.0 c.if-d.false
