-- "Four cells, first 0.5, size 1: 0.0 is Inside 0; 4.0 is Outside 3; −0.25 is Outside 0." (document 01, "Points on each side"). The rows
-- of the grid, for each axis: four cells along it and one along the others, on which 0.5 is inside. There a cell's index is its number
-- along the axis. Definitions only.
use Rattle.std.specs.Prelude.{List, [], ◌∷◌, ◌++◌, ℕ, Float}
use Rattle.std.specs.Float.{binary32}
use Rattle.std.specs.Float.Ieee.{add, sub, mul, div, of_bits}
use Rattle.float.specs.Arith.{f0, f½, f1}
use Rattle.float_floor.specs.Cell.{floor_of, cell_of, outside}
use Rattle.float.specs.Case.{Case, ◌gives◌}
use Rattle.point.specs.declared.Point.{Point}
use Rattle.point.specs.declared.Axis.{Axis}
use Rattle.point.specs.declared.Axis.TheVariants.{X, Y, Z}
use Rattle.point.specs.Point.{vec}
use Rattle.grid.specs.declared.Grid.{Grid}
use Rattle.grid.specs.declared.SnapResult.{SnapResult}
use Rattle.grid.specs.declared.SnapResult.TheVariants.{Inside, Outside}
use Rattle.grid.specs.Axes.{point_by}
use Rattle.grid.specs.Index.{index, index_of}
use Rattle.grid.specs.Place.{snap_cell, clamped, snap}

-- so many cells along each axis, first 0.5, size 1; z is upright, as in document 01
abbrev cells : ℕ → ℕ → ℕ → Grid
cells nx ny nz = record {
  first_cell = point_by (λ a. f½);
  cell_size = point_by (λ a. f1);
  count_x = nx;
  count_y = ny;
  count_z = nz;
  upright = 2;
}

abbrev four : Axis → Grid
four X = cells 4 1 1
four Y = cells 1 4 1
four Z = cells 1 1 4

-- p along the axis, and 0.5 along the others
abbrev at : Axis → Float → Point
at X p = vec p f½ f½
at Y p = vec f½ p f½
at Z p = vec f½ f½ p

-- 0 for Inside, 1 for Outside; and the cell
abbrev side : SnapResult → ℕ
side Inside = 0
side Outside = 1

abbrev side_of : Axis → Float → ℕ
side_of a p = side (snap (four a) (at a p)).result

abbrev number_of : Axis → Float → ℕ
number_of a p = index_of (four a) (snap (four a) (at a p)).cell

-- 4.0 and -0.25
abbrev f4 : Float
f4 = of_bits binary32 0x4080_0000

abbrev f_¼ : Float
f_¼ = of_bits binary32 0xbe80_0000

abbrev along : Axis → List Case
along a =
    (side_of a f0 gives 0)
    ∷ (number_of a f0 gives 0)
    ∷ (side_of a f4 gives 1)
    ∷ (number_of a f4 gives 3)
    ∷ (side_of a f_¼ gives 1)
    ∷ (number_of a f_¼ gives 0)
    ∷ []

unfoldable pub snap_cases : List Case
unfolding add sub mul div of_bits floor_of cell_of outside index snap_cell clamped snap
snap_cases = along X ++ along Y ++ along Z
