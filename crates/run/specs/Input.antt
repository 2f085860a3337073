-- What the run is told of a job's grid, mesh and method of signs (document 01, "The run", 1 and 3; document 02, §8). Definitions only.
use Rattle.std.specs.Prelude.{ℕ, ◌+◌, ◌-◌, ◌&&◌, ltb, length, Float, if◌then◌else◌}
use Rattle.float.specs.Arith.{◌≺◌}
use Rattle.terms.specs.declared.SignMethod.{SignMethod}
use Rattle.point.specs.declared.Point.{Point}
use Rattle.point.specs.declared.Axis.{Axis}
use Rattle.point.specs.Point.{coordinate}
use Rattle.grid.specs.declared.Grid.{Grid}
use Rattle.grid.specs.declared.Cell.{Cell}
use Rattle.grid.specs.Axes.{count_on, first_on, size_on, cell_on, cell_numbered, cell_by}
use Rattle.grid.specs.Index.{index_of, cell_at, total}
use Rattle.grid_axis.specs.OnAxis.{centre_on}
use Rattle.grid.specs.Place.{centre_of, snap_cell}
use Rattle.geo_box.specs.Box as Triangle
use Rattle.geo_closest.specs.Closest.{facet_of}
use Rattle.geo_measure.specs.Measured.{measured}
use Rattle.mesh.specs.declared.Corners.{Corners}
use Rattle.mesh.specs.Mesh.{Mesh, vertex_count, triangles_in, corners_at}
use Rattle.queue.specs.Order.{order_of}
use Rattle.run.specs.Run.{Box, RunInput}
use Rattle.run.specs.Steps.{around_cell}

-- ---- the snapped box of a triangle

-- the centre of the cells with number i on an axis
abbrev pub centre_at : Axis → Grid → ℕ → Float
centre_at a g i = centre_on (first_on a g) (size_on a g) i

-- "on each axis lower the first cell by one if it is above 0 and its centre lies above the box's low side"
abbrev pub lowered : Axis → Grid → Point → ℕ → ℕ
lowered a g low i = if ltb 0 i && (coordinate a low ≺ centre_at a g i) then i - 1 else i

-- "raise the last by one if it is below count − 1 and its centre lies below the box's high side"
abbrev pub raised : Axis → Grid → Point → ℕ → ℕ
raised a g high i = if ltb i (count_on a g - 1) && (centre_at a g i ≺ coordinate a high) then i + 1 else i

-- "Snap both box corners"
unfoldable pub seed_first : Grid → Point → Cell
seed_first g low = cell_by (λ a. lowered a g low (cell_on a (snap_cell g low)))

unfoldable pub seed_last : Grid → Point → Cell
seed_last g high = cell_by (λ a. raised a g high (cell_on a (snap_cell g high)))

unfoldable pub snapped_box : Grid → Corners → Box
snapped_box g t = let b = Triangle.padded_box t.a t.b t.c in record { low = seed_first g b.low; high = seed_last g b.high }

-- ---- the distance of a triangle from a cell's centre: with Normal signs the signed one

unfoldable pub distance_from : SignMethod → Grid → Corners → Cell → Float
distance_from sign g t c = measured sign (facet_of t.a t.b t.c) (centre_of g c)

-- ---- all of it

unfoldable pub run_input : Grid → Mesh → SignMethod → ℕ → ℕ → RunInput
run_input g m sign room limit =
    record {
      cells = total g;
      triangles = length (triangles_in m);
      index = λ x y z. index_of g (cell_numbered x y z);
      box = λ k. snapped_box g (corners_at m k);
      distance = λ k c. distance_from sign g (corners_at m k) (cell_at g c);
      around = around_cell g;
      goes_first = order_of m.topology m.given m.indices (vertex_count m.vertices);
      room = room;
      limit = limit;
    }
