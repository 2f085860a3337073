-- "Reply numbers. Checked in this order; the first that applies is given, and no number is given otherwise." (document 01). Those that are
-- checked before the run: document 01's 1 to 5; 10, "after 4 and before 5" (document 02, §6); 13, "after 2 and before 3" (§7); 14, "after 1" (§11).
-- Definitions only.
use Rattle.std.specs.Prelude.{ℕ, ◌*◌, ◌%◌, Bool, not, ◌||◌, List, [], ◌∷◌, ◌++◌, ltb, eqb, length, Float}
use Rattle.lists.specs.Every.{every}
use Rattle.lists.specs.Checks.{Check, first_that_applies}
use Rattle.grid.specs.declared.Grid.{Grid}
use Rattle.grid.specs.Index.{total}
use Rattle.grid.specs.Layers.{layers}
use Rattle.grid_axis.specs.AxisBounds.{is_coordinate}
use Rattle.grid.specs.Bounds.{in_bounds}
use Rattle.mesh_topology.specs.Refusals.{is_strip, too_many_triangles, all_below_count}
use Rattle.mesh.specs.Mesh.{Mesh, vertex_count, triangles_in}
use Rattle.mesh_off_grid.specs.OffGrid.{all_on_grid}
use Rattle.job_checks.specs.declared.Lengths.{Lengths}
use Rattle.job_checks.specs.Job.{Job, Lent}

-- "finite, magnitude at most 1,048,576", of every coordinate
abbrev pub all_coordinates : List Float → Bool
all_coordinates xs = every is_coordinate xs

-- 1: "grid out of bounds", an upright axis outside 0 to 2 too
abbrev pub wrong_grid : Grid → Bool
wrong_grid g = not (in_bounds g)

-- 14: "any other edition" of the layer table than 1 and 2 (document 02, §11)
abbrev pub wrong_edition : ℕ → Bool
wrong_edition e = not (eqb e 1 || eqb e 2)

-- 2: "coordinate count not a multiple of three, too many vertices, or a coordinate out of bounds (unused vertices too)"
abbrev pub wrong_vertices : List Float → Bool
wrong_vertices vs = not (eqb (length vs % 3) 0) || ltb 393216 (vertex_count vs) || not (all_coordinates vs)

-- 13: "a strip" (document 02, §7), with indices or without, though it make no triangle
abbrev pub wrong_topology : Mesh → Bool
wrong_topology m = is_strip m.topology

-- 3: "too many triangles"
abbrev pub wrong_triangles : Mesh → Bool
wrong_triangles m = too_many_triangles (triangles_in m)

-- 4: "an index used by a triangle is not below the vertex count"
abbrev pub wrong_indices : Mesh → Bool
wrong_indices m = not (all_below_count (vertex_count m.vertices) (triangles_in m))

-- 10: "on some axis, a triangle's unpadded corners all lie below the grid box's minimum or all lie above its maximum" (document 02, §6)
abbrev pub wrong_places : Grid → Mesh → Bool
wrong_places g m = not (all_on_grid g m)

-- 5: "field, names, crossings or rows not exactly cells, cells, 3 × cells (x, y, z of each cell in turn), z count long; or queue
-- buffers of unequal length"; the rows are "that axis's count, and refusal 5 measures the rows by it", the upright one (document 02, §9)
abbrev pub wrong_lengths : Grid → Lengths → Bool
wrong_lengths g l =
    not (eqb l.field (total g))
    || not (eqb l.names (total g))
    || not (eqb l.crossings (3 * total g))
    || not (eqb l.rows (layers g))
    || not (eqb l.cells l.distances)
    || not (eqb l.triangles l.distances)

-- how long the lent buffers are
abbrev pub lengths_of : Lent → Lengths
lengths_of b =
    record {
      field = length b.field;
      names = length b.names;
      crossings = length b.crossings;
      rows = length b.rows;
      distances = length b.distances;
      cells = length b.cells;
      triangles = length b.triangles;
    }

-- the checks of the grid, of the edition, of the mesh, of where it lies, and of the lent buffers
abbrev pub grid_checks : Grid → List Check
grid_checks g = record { applies = wrong_grid g; number = 1 } ∷ []

abbrev pub edition_checks : ℕ → List Check
edition_checks e = record { applies = wrong_edition e; number = 14 } ∷ []

abbrev pub mesh_checks : Mesh → List Check
mesh_checks m =
    record { applies = wrong_vertices m.vertices; number = 2 } ∷
    record { applies = wrong_topology m; number = 13 } ∷
    record { applies = wrong_triangles m; number = 3 } ∷
    record { applies = wrong_indices m; number = 4 } ∷
    []

abbrev pub place_checks : Grid → Mesh → List Check
place_checks g m = record { applies = wrong_places g m; number = 10 } ∷ []

abbrev pub length_checks : Grid → Lengths → List Check
length_checks g l = record { applies = wrong_lengths g l; number = 5 } ∷ []

-- "checked in this order"
abbrev pub checks : Grid → ℕ → Mesh → Lengths → List Check
checks g e m l = grid_checks g ++ edition_checks e ++ mesh_checks m ++ place_checks g m ++ length_checks g l

-- "the first that applies is given", and 0 where none does
unfoldable pub refusal_by : Grid → ℕ → Mesh → Lengths → ℕ
refusal_by g e m l = first_that_applies (checks g e m l)

abbrev pub refusal : Job → Lent → ℕ
refusal j b = refusal_by j.grid j.edition j.mesh (lengths_of b)
