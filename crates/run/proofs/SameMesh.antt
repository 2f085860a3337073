-- Two meshes with the same vertices that name the same triangles in the same order are one to the run, to the rays and to the signs: these
-- look at a mesh through its vertices and its triangles alone. Assumes nothing.
use Rattle.std.specs.Prelude.{if◌then◌else◌}
use Prim.Native.Nat.{ℕ, ◌+◌, ◌*◌, ◌/◌}
use mathlib.Core.Path.{◌≡◌, refl, ap}
use mathlib.Core.List.{List}
use lib.ListN.{length, get_or}
use lib.Ieee.{Float, nan, neg}
use Rattle.lists.specs.Range.{count_below, sum_below}
use Rattle.lists.specs.Table.{table}
use Rattle.terms.specs.declared.SignMethod.{SignMethod}
use Rattle.terms.specs.declared.SignMethod.TheVariants.{Raycast, Normal}
use Rattle.point.specs.declared.Axis.{Axis}
use Rattle.point.specs.declared.Axis.TheVariants.{X, Y, Z}
use Rattle.grid.specs.declared.Grid.{Grid}
use Rattle.grid.specs.declared.Cell.{Cell}
use Rattle.grid.specs.Axes.{size_on, cell_on, cell_numbered, cell_from}
use Rattle.grid.specs.Index.{index_of, cell_at, total}
use Rattle.grid.specs.Place.{centre_of}
use Rattle.geo_ray.specs.Ray.{ray_aligned}
use Rattle.mesh.specs.declared.Corners.{Corners}
use Rattle.mesh_topology.specs.Topology.{kth}
use Rattle.mesh.specs.Mesh.{Mesh, triangles_in, corners_of, corners_at}
use Rattle.queue.specs.Order as Order
use Rattle.run.specs.Steps.{around_cell}
use Rattle.run.specs.Input.{snapped_box, distance_from, run_input}
use Rattle.run.specs.Signs.{start_of, ray_from, reaches, crosses, crossings, axis_at, crossings_at, all_crossings, two_odd, inside, signed, signed_field}
use Rattle.run.specs.Grazed.{grazed_on, grazed_along, grazed}
use Rattle.run.specs.Method.{field_by, crossings_by, grazed_by}

pub record SameMesh (m n : Mesh) : Type 0 where
  pub vertices : m.vertices ≡ n.vertices
  pub triangles : triangles_in m ≡ triangles_in n

module _ (g : Grid) {m n : Mesh} (same : SameMesh m n) where
  corners_same : (k : ℕ) → corners_at m k ≡ corners_at n k
  unfolding corners_at
  corners_same k = λ i. corners_of (same.vertices i) (kth (same.triangles i) k)

  -- what the run is told
  pub input_same : (sign : SignMethod) (room limit : ℕ) → run_input g m sign room limit ≡ run_input g n sign room limit
  unfolding run_input
  input_same sign room limit =
      λ i.
      record {
        cells = total g;
        triangles = length (same.triangles i);
        index = λ x y z. index_of g (cell_numbered x y z);
        box = λ k. snapped_box g (corners_same k i);
        distance = λ k c. distance_from sign g (corners_same k i) (cell_at g c);
        around = around_cell g;
        goes_first = Order.goes_first (kth (same.triangles i));
        room = room;
        limit = limit;
      }

  ray_same : (axis : Axis) (c : Cell) (k : ℕ) → ray_from g m axis c k ≡ ray_from g n axis c k
  unfolding ray_from
  ray_same axis c k = ap (λ (t : Corners). ray_aligned (centre_of g (start_of axis c)) t.a t.b t.c axis) (corners_same k)

  crossings_same : (axis : Axis) (c : Cell) → crossings g m axis c ≡ crossings g n axis c
  unfolding crossings crosses
  crossings_same axis c = λ i. count_below (λ k. reaches (size_on axis g) (cell_on axis c) (ray_same axis c k i)) (length (same.triangles i))

  all_crossings_same : all_crossings g m ≡ all_crossings g n
  unfolding all_crossings crossings_at
  all_crossings_same = λ i. table (λ k. crossings_same (axis_at k) (cell_at g (k / 3)) i) (3 * total g)

  inside_same : (c : Cell) → inside g m c ≡ inside g n c
  unfolding inside
  inside_same c = λ i. two_odd (crossings_same X c i) (crossings_same Y c i) (crossings_same Z c i)

  signed_same : (field : List Float) → signed_field g m field ≡ signed_field g n field
  unfolding signed_field signed
  signed_same field = λ i. table (λ c. if inside_same (cell_at g c) i then neg (get_or field c nan) else get_or field c nan) (total g)

  grazed_along_lem : (axis : Axis) (k : ℕ) → grazed_along g m axis k ≡ grazed_along g n axis k
  unfolding grazed_along
  grazed_along_lem axis k = λ i. grazed_on g axis (λ u v. ray_same axis (cell_from axis 0 u v) k i)

  grazed_same : grazed g m ≡ grazed g n
  unfolding grazed
  grazed_same = λ i. sum_below (λ k. grazed_along_lem X k i + grazed_along_lem Y k i + grazed_along_lem Z k i) (length (same.triangles i))

  -- ---- by either method

  pub field_by_same : (sign : SignMethod) (field : List Float) → field_by sign g m field ≡ field_by sign g n field
  field_by_same Raycast field = signed_same field
  field_by_same Normal field = refl

  pub crossings_by_same : (sign : SignMethod) → crossings_by sign g m ≡ crossings_by sign g n
  crossings_by_same Raycast = all_crossings_same
  crossings_by_same Normal = refl

  pub grazed_by_same : (sign : SignMethod) → grazed_by sign g m ≡ grazed_by sign g n
  grazed_by_same Raycast = grazed_same
  grazed_by_same Normal = refl
