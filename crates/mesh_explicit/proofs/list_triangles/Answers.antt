-- `mesh_explicit::list_triangles`: a piece of three numbers for each triangle, one behind the other. Assumes nothing.
use native.Mathlib.Omega.{arith}
use mathlib.Core.Path.{refl}
use Rattle.lists.proofs.Joined.{joined_each}
use Rattle.lists.proofs.Puts.{said, no_pieces, pieces_more, pieces_all}
use Rattle.mesh_topology.specs.Topology.{triangle}
use Rattle.mesh_explicit.specs.Explicit.{vertex_numbers}
use Rattle.mesh_explicit.proofs.list_triangles.Goals as goal

pub loop-k-init : goal.loop-k-init
loop-k-init c = no_pieces _ _ _ _ _

pub loop-k-preserved : goal.loop-k-preserved
loop-k-preserved c =
    let put = c.put_triangle-next.ensures in
    pieces_more _ _ _ _ _ c.loop-k.invariant c.loop-k-test.true (rw c.triangle_at-t.ensures at put) (omega (arith, put.next))

pub returns : goal.returns
returns c =
    let put = pieces_all _ _ _ _ _ c.loop-k.invariant c.loop-k-test.false in
    said (joined_each vertex_numbers (triangle 0 0 0) _) refl (rw c.triangle_count-n.ensures at put.0)
