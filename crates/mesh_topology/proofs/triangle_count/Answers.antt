-- `mesh_topology::triangle_count`: so many corners make so many triangles (`count_is`). Assumes nothing.
use Rattle.mesh_topology.proofs.Laws.{count_is}
use Rattle.mesh_topology.proofs.triangle_count.Goals as goal

pub returns : goal.returns
returns c = rw count_is (rw c.corner_count.ensures at c.count_of.ensures)
