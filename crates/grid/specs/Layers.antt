-- "The grid record gains its upright axis, and rows run along it: their number is that axis's count" (document 02, §9). Which axis is
-- upright, how many layers a grid has, and in which of them the cell of an index lies. Whatever speaks of layers and rows says it by these.
-- Definitions only.
use Rattle.std.specs.Prelude.{ℕ}
use Rattle.point.specs.declared.Axis.{Axis}
use Rattle.point.specs.Point.{axis_numbered}
use Rattle.grid.specs.declared.Grid.{Grid}
use Rattle.grid.specs.Axes.{count_on, cell_on}
use Rattle.grid.specs.Index.{cell_at}

-- 0 x, 1 y, 2 z; a grid with any other number is out of bounds (Bounds.antt)
abbrev pub upright_of : Grid → Axis
upright_of g = axis_numbered g.upright

abbrev pub layers : Grid → ℕ
layers g = count_on (upright_of g) g

abbrev pub layer_of : Grid → ℕ → ℕ
layer_of g i = cell_on (upright_of g) (cell_at g i)

-- the same grid with another axis upright
abbrev pub stood : ℕ → Grid → Grid
stood u g =
    record {
      first_cell = g.first_cell;
      cell_size = g.cell_size;
      count_x = g.count_x;
      count_y = g.count_y;
      count_z = g.count_z;
      upright = u;
    }
