-- `queue_cells`: the loop's turns are those of queueing, one for each cell. Assumes nothing.
use native.Mathlib.Omega.{arith}
use mathlib.Core.Path.{refl, ◌∙◌}
use Rattle.run.specs.Run.{queue_cell}
use Rattle.run_state.proofs.Loops.{begins, goes_on, stops, ends, Alike, alike}
use Rattle.run_queue.proofs.queue_cells.Goals as goal
use Rattle.run_queue.proofs.queue_cells.Goals.{After-loop-c, Then-reached-ne0}

-- the lengths are those of the entry, at the loop's head and behind a cell's queueing
alike_at : (l : After-loop-c) →
    let o = l.loop-c in
    let a = l.args in
    Alike a.field.now a.field.now a.names.now o.distances o.cells o.triangles
    a.names.now a.distances.now a.cells.now a.triangles.now
alike_at l = alike refl refl l.loop-c.invariant.long l.loop-c.invariant.held l.requires.held

alike_behind : (q : Then-reached-ne0) →
    let a = q.args in
    Alike a.field.now a.field.now a.names.now q.queue_cell-reached.new.distances q.queue_cell-reached.new.cells q.queue_cell-reached.new.triangles
    a.names.now a.distances.now a.cells.now a.triangles.now
alike_behind q =
    alike refl refl (q.queue_cell-reached.auto.distances ∙ q.loop-c.invariant.long) q.queue_cell-reached.ensures.held q.requires.held

pub loop-c-init : goal.loop-c-init
loop-c-init c = begins queue_cell c.requires.number_value.0 c.requires.held

pub queue_cell-reached-requires : goal.queue_cell-reached-requires
queue_cell-reached-requires c =
    let a = c.loop-c.invariant in record { held = a.held; number_value = (a.fine, c.loop-c-test.true, c.requires.number_value.1, omega (arith, c.loop-c-test.true, c.requires.number_value.2)) }

pub shape_of-distances-then-reached-ne0 : goal.shape_of-distances-then-reached-ne0
shape_of-distances-then-reached-ne0 c = (alike_behind c).distances_same

pub shape_of-cells-then-reached-ne0 : goal.shape_of-cells-then-reached-ne0
shape_of-cells-then-reached-ne0 c = (alike_behind c).cells_same

pub shape_of-triangles-then-reached-ne0 : goal.shape_of-triangles-then-reached-ne0
shape_of-triangles-then-reached-ne0 c = (alike_behind c).triangles_same

pub returns-then-reached-ne0 : goal.returns-then-reached-ne0
returns-then-reached-ne0 c =
    stops queue_cell c.loop-c.invariant c.queue_cell-reached.ensures _ c.if-reached-ne0.true c.loop-c-test.true

pub loop-c-preserved : goal.loop-c-preserved
loop-c-preserved c =
    goes_on queue_cell c.loop-c.invariant c.queue_cell-reached.ensures refl refl c.queue_cell-reached.auto.distances c.if-reached-ne0.false

pub shape_of-distances : goal.shape_of-distances
shape_of-distances c = (alike_at c).distances_same

pub shape_of-cells : goal.shape_of-cells
shape_of-cells c = (alike_at c).cells_same

pub shape_of-triangles : goal.shape_of-triangles
shape_of-triangles c = (alike_at c).triangles_same

pub returns : goal.returns
returns c = ends queue_cell _ c.loop-c.invariant (omega arith)
