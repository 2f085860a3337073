-- `entries_queue::queue_cells`: a cell's batch is queued, and that is the cell queued; a refusal ends the loop. Assumes nothing.
use native.Mathlib.Omega.{arith}
use mathlib.Core.Path.{refl}
use Rattle.run.specs.Run.{queue_cell}
use Rattle.run_state.proofs.Loops.{begins, goes_on, stops, ends}
use Rattle.entries.proofs.Projections.{same_room}
use Rattle.entries_batch.proofs.Cells.{cell_queued}
use Rattle.entries_queue.proofs.queue_cells.Goals as goal

pub loop-c-init : goal.loop-c-init
loop-c-init c = begins queue_cell c.requires.1 c.requires.0

pub cell_batch-b-requires : goal.cell_batch-b-requires
cell_batch-b-requires c = (c.loop-c-test.true, omega (arith, c.loop-c-test.true, c.requires.2), omega (arith, c.loop-c-test.true, c.requires.3))

pub push_all-reached-requires : goal.push_all-reached-requires
push_all-reached-requires c = (c.loop-c.invariant.held, c.loop-c.invariant.fine, c.cell_batch-b.ensures.few)

pub loop-c-preserved : goal.loop-c-preserved
loop-c-preserved c =
    goes_on queue_cell c.loop-c.invariant (cell_queued c.cell_batch-b.ensures (c.push_all-reached.ensures c.args.field.now c.args.names.now))
    refl refl (same_room c.loop-c.row c.push_all-reached.new.row c.push_all-reached.auto.row) c.if-reached-ne0.false

pub returns-after-loop-c : goal.returns-after-loop-c
returns-after-loop-c c = ends queue_cell _ c.loop-c.invariant (omega arith)

pub returns-then-reached-ne0 : goal.returns-then-reached-ne0
returns-then-reached-ne0 c =
    stops queue_cell c.loop-c.invariant (cell_queued c.cell_batch-b.ensures (c.push_all-reached.ensures c.args.field.now c.args.names.now)) _
    c.if-reached-ne0.true c.loop-c-test.true
