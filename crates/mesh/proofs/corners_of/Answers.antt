-- `mesh::corners_of`: what the three calls ensure. Assumes nothing.
use Rattle.mesh.specs.Mesh.{corners_of}
use Rattle.mesh.proofs.corners_of.Goals as goal

pub returns : goal.returns
unfolding corners_of
returns c = rw (c.vertex-a.ensures, c.vertex-b.ensures, c.vertex-c.ensures)
