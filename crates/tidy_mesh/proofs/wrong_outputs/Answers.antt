-- `tidy_mesh::wrong_outputs`: the tests joined, with the count of the triangles. Assumes nothing.
use Rattle.tidy_mesh.proofs.wrong_outputs.Goals as goal

pub returns : goal.returns
returns c =
    rw c.triangle_count-triangles.ensures
