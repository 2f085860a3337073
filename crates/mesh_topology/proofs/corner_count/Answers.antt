-- `mesh_topology::corner_count`: in each arm the corners are known, and so is their number. Assumes nothing.
use Rattle.mesh_topology.proofs.Laws.{length_count_from}
use Rattle.mesh_topology.proofs.corner_count.Goals as goal

pub returns-in-None : goal.returns-in-None
returns-in-None c = rw (c.in-None.is, length_count_from)
