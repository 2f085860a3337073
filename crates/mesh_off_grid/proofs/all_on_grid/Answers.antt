-- `mesh_off_grid::all_on_grid`: the loop's invariant is that no triangle passed lies off the grid. One that does decides the answer, and
-- so does the end of the row. Assumes nothing.
use borrow.Author.Count.{below_more}
use mathlib.Core.Path.{◌≡◌, sym, ap, ◌∙◌}
use mathlib.Core.Bool.{Bool, not}
use native.Mathlib.Omega.{arith}
use Rattle.lists.proofs.Every.{every_each, every_not}
use Rattle.mesh_topology.specs.Topology.{triangle, kth}
use Rattle.grid.specs.declared.BoundingBox.{BoundingBox}
use Rattle.mesh.specs.declared.Corners.{Corners}
use Rattle.mesh.specs.Mesh.{mesh_of, triangles_in, corners_of, corners_at}
use Rattle.mesh_off_grid.specs.OffGrid.{off_box, all_on_grid}
use Rattle.mesh.specs.Lent.{mesh_in}
use Rattle.mesh_off_grid.proofs.all_on_grid.Goals as goal
use Rattle.mesh_off_grid.proofs.all_on_grid.Goals.{After-off_box-off}

-- the box that was formed is the grid's
same_box : {b grid's : BoundingBox} → b ≡ grid's → (t : Corners) {r : Bool} → off_box b t ≡ r → off_box grid's t ≡ r
same_box e t h = rw e at h

-- what the turn found is what the definition says of triangle k
found : (c : After-off_box-off) →
    let m = mesh_in c.args.mesh in
    off_box c.get_bounding_box-filled.result (corners_of m.vertices (kth (triangles_in m) c.loop-k.k)) ≡ c.off_box-off.result
unfolding corners_at
found c = sym (rw c.corners_at-t.ensures at c.off_box-off.ensures)

pub returns-then-off : goal.returns-then-off
unfolding all_on_grid
returns-then-off c =
    let off = same_box c.get_bounding_box-filled.ensures _ (found (goal.at.returns-then-off c).After-off_box-off ∙ c.if-off.true) in
    sym (every_not _ (triangle 0 0 0) _ c.loop-k.k (omega arith) (ap not off))

pub loop-k-preserved : goal.loop-k-preserved
loop-k-preserved c = below_more _ _ c.loop-k.invariant (ap not (found (goal.at.loop-k-preserved c).After-off_box-off ∙ c.if-off.false))

pub returns : goal.returns
unfolding all_on_grid
returns c =
    sym (every_each _ (triangle 0 0 0) _ (λ k h. rw c.get_bounding_box-filled.ensures at (c.loop-k.invariant k (omega arith))))
