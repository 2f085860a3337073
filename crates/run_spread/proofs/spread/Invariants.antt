-- `spread`: the loop's invariant is that what is left to spread comes to the whole. Assumes nothing.
use Prim.Native.Nat.{◌-◌}
use mathlib.Core.Path.{◌≡◌}
use Rattle.mesh.specs.Mesh.{mesh_of}
use Rattle.run.specs.Steps as Steps
use Rattle.run_around.specs.Around.{codes}
use Rattle.run_spread.proofs.Spreads.{Spreads}
use Rattle.mesh.specs.Lent.{mesh_in}
use Rattle.run_spread.proofs.spread.Given as goal

abbrev pub invariant-loop-run : goal.invariant-loop-run
invariant-loop-run l =
    Spreads l.grid (mesh_in l.mesh) l.terms.sign l.terms.limit l.initial.field l.initial.names l.initial.distances l.initial.cells l.initial.triangles l.initial.run l.field l.names l.distances l.cells l.triangles l.run
    × (l.steps ≡ codes Steps.steps)

abbrev pub decreases-loop-run : goal.decreases-loop-run
decreases-loop-run l =
    l.terms.limit - l.run.pops
