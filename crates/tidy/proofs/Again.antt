-- What the checks of a job ask of a mesh, refusals 2, 13, 3 and 4, holds of the tidied mesh where it held of the given one: it is a list,
-- it has no more vertices and triangles, each of its coordinates is a given one, and its triangles name its vertices (`tidied_valid` in
-- Tidied). Assumes nothing.
use Prim.Native.Nat.{ℕ, ◌+◌, ◌*◌, ◌/◌, ◌%◌, ◌≤◌, ◌<◌}
use native.Mathlib.Omega.{arith}
use mathlib.Core.Path.{◌≡◌, refl, sym, ap, ◌∙◌}
use mathlib.Core.Bool.{Bool, true}
use mathlib.Core.List.{List}
use lib.ListN.{length, get_or}
use lib.Ieee.{Float, nan}
use Rattle.lists.specs.Every.{every}
use Rattle.lists.proofs.Range.{count_le}
use Rattle.lists.proofs.Every.{every_each, every_at}
use Rattle.mesh_topology.specs.declared.Topology.TheVariants.{TriangleList}
use Rattle.mesh.specs.Mesh.{Mesh, Sound}
use Rattle.tidy.specs.Tidy.{vertex_total, triangle_total, is_kept, used, kept_vertices, kept_triangles, vertex_from, tidied}
use Rattle.tidy.proofs.Coordinates.{coordinate}
use Rattle.tidy.proofs.Tidied.{coordinates_long, vertices_long, triangles_long, vertex_of_lem, vertices_in_turn, tidied_valid}

module _ (m : Mesh) where
  pub no_more_vertices : kept_vertices m ≤ vertex_total m
  unfolding kept_vertices
  no_more_vertices = count_le (used m) (vertex_total m)

  pub no_more_triangles : kept_triangles m ≤ triangle_total m
  unfolding kept_triangles
  no_more_triangles = count_le (is_kept m) (triangle_total m)

  -- 2, of the tidied coordinates: so many, and each a given one
  pub vertices_fit : vertex_total (tidied m) ≤ vertex_total m
  vertices_fit = omega (arith, vertices_long m, no_more_vertices)

  pub by_threes : length (tidied m).vertices % 3 ≡ 0
  by_threes = omega (arith, coordinates_long m)

  pub coordinates_pass : (p : Float → Bool) → every p m.vertices ≡ true → every p (tidied m).vertices ≡ true
  coordinates_pass p h =
      every_each p nan (tidied m).vertices (λ k l.
      let i : k / 3 < kept_vertices m = omega (arith, coordinates_long m) in
      let e : k ≡ 3 * (k / 3) + k % 3 = omega arith in
      let d : k % 3 < 3 = omega arith in
      let f = (vertices_in_turn m).below (k / 3) i in
      ap p (ap (λ (j : ℕ). get_or (tidied m).vertices j nan) e
      ∙ coordinate (tidied m).vertices (k / 3) (k % 3) d
      ∙ ap (λ (c : List Float). get_or c (k % 3) nan) (vertex_of_lem m (k / 3) i)
      ∙ sym (coordinate m.vertices (vertex_from m (k / 3)) (k % 3) d))
      ∙ every_at p nan m.vertices (3 * vertex_from m (k / 3) + k % 3) h (omega arith))

  -- 13
  pub is_list : (tidied m).topology ≡ TriangleList
  unfolding tidied
  is_list = refl

  -- 3
  pub triangles_fit : triangle_total (tidied m) ≤ triangle_total m
  triangles_fit = omega (arith, triangles_long m, no_more_triangles)

  -- 4, and so few vertices as the given ones
  pub tidied_sound : Sound m → Sound (tidied m)
  tidied_sound s = record { few = omega (arith, vertices_fit, s.few); below = tidied_valid m s.below }
