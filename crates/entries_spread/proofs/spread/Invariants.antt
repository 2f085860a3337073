-- `entries_spread::spread`: what the pops so far came to, by the law of crate `run_spread` at the row's three projections. Assumes nothing.
use Prim.Native.Nat.{◌-◌}
use Rattle.mesh.specs.Mesh.{mesh_of}
use Rattle.entries.specs.Row.{row_distances, row_cells, row_triangles}
use Rattle.run_spread.proofs.Spreads.{Spreads}
use Rattle.mesh.specs.Lent.{mesh_in}
use Rattle.entries_spread.proofs.spread.Given as goal

abbrev pub invariant-loop-run : goal.invariant-loop-run
invariant-loop-run l =
    Spreads l.grid (mesh_in l.mesh) l.terms.sign l.terms.limit
    l.initial.field l.initial.names (row_distances l.initial.row) (row_cells l.initial.row) (row_triangles l.initial.row) l.initial.run
    l.field l.names (row_distances l.row) (row_cells l.row) (row_triangles l.row) l.run

abbrev pub decreases-loop-run : goal.decreases-loop-run
decreases-loop-run l = l.terms.limit - l.run.pops
