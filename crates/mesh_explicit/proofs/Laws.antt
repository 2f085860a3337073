-- Triangles that are listed by explicit indices: as a list these name the same triangles in the same order, which is why a strip and what it
-- is converted to give one field. By induction over the triangles. Assumes nothing.
use Prim.Native.Nat.{ℕ, ◌*◌}
use native.Mathlib.Omega.{arith}
use mathlib.Core.Path.{◌≡◌, refl, ap}
use mathlib.Core.List.{List, [], ◌∷◌}
use lib.ListN.{length}
use Rattle.lists.specs.Joined.{each}
use Rattle.mesh_topology.specs.declared.Triangle.{Triangle}
use Rattle.mesh_topology.specs.declared.Topology.TheVariants.{TriangleList}
use Rattle.mesh_topology.specs.declared.Indices.TheVariants.{Given}
use Rattle.mesh_topology.specs.Topology.{threes, triangles, triangles_of}
use Rattle.mesh_explicit.specs.Explicit.{explicit}

pub threes_explicit : (ts : List Triangle) → threes (explicit ts) ≡ ts
unfolding threes each
threes_explicit [] = refl
threes_explicit (t ∷ ts) = ap (λ (rest : List Triangle). t ∷ rest) (threes_explicit ts)

-- as the triangles of a mesh: a list with these indices, whatever its vertices
pub explicit_names : (ts : List Triangle) (vertices : ℕ) → triangles_of TriangleList Given (explicit ts) vertices ≡ ts
unfolding triangles
explicit_names ts vertices = threes_explicit ts

-- three numbers for each triangle
pub explicit_long : (ts : List Triangle) → length (explicit ts) ≡ 3 * length ts
unfolding each
explicit_long [] = refl
explicit_long (t ∷ ts) = omega (arith, explicit_long ts)
