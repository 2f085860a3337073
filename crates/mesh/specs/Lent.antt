-- The mesh that a lent one is: its lists. Definitions only.
use Rattle.mesh.specs.declared.Mesh as Declared
use Rattle.mesh.specs.Mesh.{Mesh, mesh_of}

abbrev pub mesh_in : Declared.Mesh → Mesh
mesh_in m = mesh_of m.vertices.now m.topology m.given m.indices.now
