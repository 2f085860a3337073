-- Where cells lie, and in which cell a point lies (document 01, "Grid"). What is alike on the three axes is defined on one
-- (`grid_axis`, OnAxis). Definitions only.
use Rattle.std.specs.Prelude.{Bool, ℤ, if◌then◌else◌}
use Rattle.float_floor.specs.Cell.{floor_of, cell_of, outside}
use Rattle.grid_axis.specs.OnAxis.{centre_on, low_on, high_on, quotient_on, box_size, box_first}
use Rattle.point.specs.declared.Point.{Point}
use Rattle.point.specs.declared.Axis.{Axis}
use Rattle.point.specs.Point.{coordinate}
use Rattle.grid.specs.declared.Grid.{Grid}
use Rattle.grid.specs.declared.Cell.{Cell}
use Rattle.grid.specs.declared.Counts.{Counts}
use Rattle.grid.specs.declared.BoundingBox.{BoundingBox}
use Rattle.grid.specs.declared.Snap.{Snap}
use Rattle.grid.specs.declared.SnapResult.TheVariants.{Inside, Outside}
use Rattle.grid.specs.Axes.{count_on, along, first_on, size_on, cell_on, point_by, cell_by, on_some}

-- the centre of a cell, axis by axis
unfoldable pub centre_of : Grid → Cell → Point
centre_of g c = point_by (λ a. centre_on (first_on a g) (size_on a g) (cell_on a c))

-- the box that the cells fill: its corners, axis by axis
unfoldable pub box_min : Grid → Point
box_min g = point_by (λ a. low_on (first_on a g) (size_on a g))

unfoldable pub box_max : Grid → Point
box_max g = point_by (λ a. high_on (first_on a g) (size_on a g) (count_on a g))

abbrev pub grid_box : Grid → BoundingBox
grid_box g = record { min = box_min g; max = box_max g }

-- "Snap: floor of (point − box minimum) / size, as a signed whole number that saturates at the ends of the 64-bit range, then
-- clamped to 0 .. count − 1. Inside if no axis was clamped, else Outside. [..] A NaN quotient gives 0, as the Rust cast does."
abbrev pub floor_on : Axis → Grid → Point → ℤ
floor_on a g p = floor_of (quotient_on (first_on a g) (size_on a g) (coordinate a p))

unfoldable pub snap_cell : Grid → Point → Cell
snap_cell g p = cell_by (λ a. cell_of (count_on a g) (floor_on a g p))

unfoldable pub clamped : Grid → Point → Bool
clamped g p = on_some (λ a. outside (count_on a g) (floor_on a g p))

unfoldable pub snap : Grid → Point → Snap
snap g p = record { result = if clamped g p then Outside else Inside; cell = snap_cell g p }

-- "`get_last_cell` gives first + count·size, one cell further than its comment says."
unfoldable pub last_cell : Grid → Point
last_cell g = point_by (λ a. centre_on (first_on a g) (size_on a g) (count_on a g))

-- `from_bounding_box`, axis by axis; z is upright, as in the source, which knows no other
unfoldable pub from_box : Point → Point → Counts → Grid
from_box low high n = record {
  first_cell = point_by (λ a. box_first (coordinate a low) (coordinate a high) (along a n));
  cell_size = point_by (λ a. box_size (coordinate a low) (coordinate a high) (along a n));
  count_x = n.x;
  count_y = n.y;
  count_z = n.z;
  upright = 2;
}
