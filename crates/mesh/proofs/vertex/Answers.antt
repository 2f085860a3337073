-- `mesh::vertex`: the three places are below the length, since i is below a third of it. Assumes nothing.
use mathlib.Core.Path.{refl}
use Rattle.mesh.specs.Mesh.{vertex_at}
use Rattle.mesh.proofs.vertex.Goals as goal

pub returns : goal.returns
unfolding vertex_at
returns c = refl
