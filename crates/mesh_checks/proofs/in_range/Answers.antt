-- `mesh_checks::in_range`: the loop's invariant is that the corners of each triangle passed are below the vertex count. A triangle
-- with another corner decides the answer, and so does the end of the row. Assumes nothing.
use mathlib.Core.Path.{◌≡◌, sym, ◌∙◌}
use native.Mathlib.Omega.{arith}
use Rattle.lists.proofs.Every.{every_each, every_not}
use Rattle.mesh_topology.specs.Topology.{triangles_of, triangle, kth}
use Rattle.mesh_topology.specs.Refusals.{below_count}
use Rattle.mesh_checks.proofs.in_range.Goals as goal
use Rattle.mesh_checks.proofs.in_range.Goals.{Then-not-ok}

-- what the turn found is what the definition says of triangle k
found : (c : Then-not-ok) →
    let s = c.args in
    below_count s.vertices (kth (triangles_of s.topology s.given s.indices.now s.vertices) c.loop-k.k) ≡ c.below_count-ok.result
found c = sym (rw c.triangle_at-t.ensures at c.below_count-ok.ensures)

pub returns-then-not-ok : goal.returns-then-not-ok
returns-then-not-ok c = sym (every_not _ (triangle 0 0 0) _ c.loop-k.k (omega arith) (found c ∙ c.if-not-ok.true))

pub returns : goal.returns
returns c = sym (every_each _ (triangle 0 0 0) _ (λ k h. c.loop-k.invariant k (omega arith)))
