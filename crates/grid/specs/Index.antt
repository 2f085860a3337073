-- "Index of (x, y, z): z + y·nz + x·ny·nz; the way back is its inverse." (document 01, "Grid"): the formulas of `grid_index`, ByCounts, of a cell
-- and of a grid. Definitions only.
use Rattle.std.specs.Prelude.{Bool, ℕ, ◌*◌, ◌<◌, ltb}
use Rattle.grid_index.specs.ByCounts.{index_by, x_by, y_by, z_by}
use Rattle.point.specs.declared.Axis.{Axis}
use Rattle.point.specs.declared.Axis.TheVariants.{X, Y, Z}
use Rattle.grid.specs.declared.Grid.{Grid}
use Rattle.grid.specs.declared.Cell.{Cell}
use Rattle.grid.specs.Axes.{count_on, cell_on, cell_numbered, on_every}

-- of a grid with ny cells along y and nz along z
unfoldable pub index : ℕ → ℕ → Cell → ℕ
index ny nz c = index_by ny nz c.x c.y c.z

unfoldable pub coordinates : ℕ → ℕ → ℕ → Cell
coordinates ny nz i = cell_numbered (x_by ny nz i) (y_by ny nz i) (z_by nz i)

-- by how much the index grows from a cell to the next along an axis
abbrev pub stride : Axis → ℕ → ℕ → ℕ
stride X ny nz = ny * nz
stride Y ny nz = nz
stride Z ny nz = 1

-- a cell within the counts
pub record Within (nx ny nz : ℕ) (c : Cell) : Type 0 where
  pub x_below : c.x < nx
  pub y_below : c.y < ny
  pub z_below : c.z < nz

-- the same of a grid
abbrev pub index_of : Grid → Cell → ℕ
index_of g c = index (count_on Y g) (count_on Z g) c

abbrev pub cell_at : Grid → ℕ → Cell
cell_at g i = coordinates (count_on Y g) (count_on Z g) i

abbrev pub total : Grid → ℕ
total g = count_on X g * count_on Y g * count_on Z g

abbrev pub stride_on : Grid → Axis → ℕ
stride_on g a = stride a (count_on Y g) (count_on Z g)

abbrev pub Inside : Grid → Cell → Type 0
Inside g c = Within (count_on X g) (count_on Y g) (count_on Z g) c

-- as tests: what refusal 4 is given for when they fail
abbrev pub is_cell : Grid → Cell → Bool
is_cell g c = on_every (λ a. ltb (cell_on a c) (count_on a g))

abbrev pub is_index : Grid → ℕ → Bool
is_index g i = ltb i (total g)
