-- `run_field::spread_seeds`: queueing ends it, or spreading goes on from what was queued. Assumes nothing.
use native.Mathlib.Omega.{arith}
use mathlib.Core.Path.{refl, sym, ◌∙◌}
use lib.ListN.{length}
use Rattle.grid.proofs.Facts.{bounds_of}
use Rattle.mesh.specs.Mesh.{mesh_of}
use Rattle.run.specs.Run.{queueing}
use Rattle.run.specs.Input.{run_input}
use Rattle.run_field.specs.Running.{Leaves, seeded}
use Rattle.run_field.proofs.Runs.{as_left, cells_told, queueing_states, rest_stops, rest_begins, rest_goes_on}
use Rattle.mesh.specs.Lent.{mesh_in}
use Rattle.run_field.proofs.spread_seeds.Goals as goal
use Rattle.run_field.proofs.spread_seeds.Goals.{After-queue_cells-queued}

-- what was queued is the run's queueing, from what was seeded
all_queued : (c : After-queue_cells-queued) →
    let a = c.args in
    let m = mesh_in a.mesh in
    let q = c.queue_cells-queued in
    Leaves a.grid m (λ any. queueing (run_input a.grid m a.terms.sign (length a.distances.now) any) (seeded m a.field.now a.names.now a.distances.now a.cells.now a.triangles.now))
    a.field.now a.names.now q.new.distances q.new.cells q.new.triangles q.result
all_queued c = as_left (cells_told c.requires.fit c.requires.fact c.queue_cells-queued.ensures)

pub queue_cells-queued-requires : goal.queue_cells-queued-requires
queue_cells-queued-requires c =
    let h = c.requires.holds in record { held = h.held; number_value = (refl, h.names_long ∙ sym h.field_long, omega (arith, h.field_long, (bounds_of c.args.grid c.requires.fit.ready.bounded).total_few)) }

pub returns-then-queued-ne0 : goal.returns-then-queued-ne0
returns-then-queued-ne0 c =
    rest_stops c.args.terms.sign _ (length c.args.distances.now) c.args.terms.limit (all_queued (goal.at.returns-then-queued-ne0 c).After-queue_cells-queued) c.if-queued-ne0.true

pub spread-requires : goal.spread-requires
spread-requires c =
    let queued = all_queued (goal.at.spread-requires c).After-queue_cells-queued in
    let went = c.if-queued-ne0.false in record {
      fit = c.requires.fit;
      holds = queued.holds;
      fact = queueing_states c.requires.fit c.requires.fact c.queue_cells-queued.ensures c.queue_cells-queued.auto.distances went;
      number_value = (went, rest_begins c.args.terms.sign _ (length c.args.distances.now) c.args.terms.limit queued went refl);
    }

pub returns : goal.returns
returns c =
    rest_goes_on c.args.terms.sign _ (length c.args.distances.now) c.args.terms.limit (all_queued (goal.at.returns c).After-queue_cells-queued) c.if-queued-ne0.false
    c.queue_cells-queued.auto.distances (as_left c.spread.ensures)
