-- The lines of cells along an axis. A line is named by the numbers u and v of its cells on the two other axes, in the order in which
-- the ray test reads the coordinates, so that what is said of one axis is said of all three. "3 × cells (x, y, z of each cell in turn)"
-- (document 01): of the three numbers of a cell the axis has one, its entry. Definitions only.
use Rattle.std.specs.Prelude.{ℕ, ◌+◌, ◌*◌, Float}
use Rattle.point.specs.declared.Axis.{Axis}
use Rattle.point.specs.declared.Axis.TheVariants.{X, Y, Z}
use Rattle.grid.specs.declared.Grid.{Grid}
use Rattle.grid.specs.declared.Cell.{Cell}
use Rattle.grid.specs.Axes.{first_on, size_on, cell_on, next}
use Rattle.grid.specs.Index.{index_of}
use Rattle.grid_axis.specs.OnAxis.{centre_on}

-- u counts along the next axis, v along the one after that
abbrev pub u_of : Axis → Cell → ℕ
u_of axis c = cell_on (next axis) c

abbrev pub v_of : Axis → Cell → ℕ
v_of axis c = cell_on (next (next axis)) c

-- the centre of cell i on the axis
abbrev pub centre_along : Grid → Axis → ℕ → Float
centre_along g axis i = centre_on (first_on axis g) (size_on axis g) i

-- "x, y, z of each cell in turn"
abbrev pub axis_number : Axis → ℕ
axis_number X = 0
axis_number Y = 1
axis_number Z = 2

unfoldable pub entry_of : Grid → Axis → Cell → ℕ
entry_of g axis c = 3 * index_of g c + axis_number axis
