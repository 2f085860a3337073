-- What a grid, a cell and a point have along one axis. Where the three axes are alike, a definition is written once, over the axis.
-- Definitions only.
use Rattle.std.specs.Prelude.{Bool, ◌&&◌, ◌||◌, ℕ, Float}
use Rattle.point.specs.declared.Point.{Point}
use Rattle.point.specs.declared.Axis.{Axis}
use Rattle.point.specs.declared.Axis.TheVariants.{X, Y, Z}
use Rattle.point.specs.Point.{vec, coordinate}
use Rattle.grid.specs.declared.Grid.{Grid}
use Rattle.grid.specs.declared.Cell.{Cell}
use Rattle.grid.specs.declared.Counts.{Counts}

abbrev pub count_on : Axis → Grid → ℕ
count_on X g = g.count_x
count_on Y g = g.count_y
count_on Z g = g.count_z

abbrev pub counts_of : Grid → Counts
counts_of g = record { x = g.count_x; y = g.count_y; z = g.count_z }

abbrev pub along : Axis → Counts → ℕ
along X n = n.x
along Y n = n.y
along Z n = n.z

abbrev pub first_on : Axis → Grid → Float
first_on a g = coordinate a g.first_cell

abbrev pub size_on : Axis → Grid → Float
size_on a g = coordinate a g.cell_size

abbrev pub cell_on : Axis → Cell → ℕ
cell_on X c = c.x
cell_on Y c = c.y
cell_on Z c = c.z

abbrev pub cell_numbered : ℕ → ℕ → ℕ → Cell
cell_numbered x y z = record { x = x; y = y; z = z }

-- the cell with k in the place of its number along an axis
abbrev pub put : Axis → ℕ → Cell → Cell
put X k c = cell_numbered k c.y c.z
put Y k c = cell_numbered c.x k c.z
put Z k c = cell_numbered c.x c.y k

-- the axis after this one, round and round
abbrev pub next : Axis → Axis
next X = Y
next Y = Z
next Z = X

-- cell number n of the line along an axis whose cells have u on the next axis and v on the one after that
abbrev pub cell_from : Axis → ℕ → ℕ → ℕ → Cell
cell_from X n u v = cell_numbered n u v
cell_from Y n u v = cell_numbered v n u
cell_from Z n u v = cell_numbered u v n

-- the one of three numbers that belongs to an axis
abbrev pub pick : Axis → ℕ → ℕ → ℕ → ℕ
pick X x y z = x
pick Y x y z = y
pick Z x y z = z

-- the point and the cell that f gives axis by axis
abbrev pub point_by : (Axis → Float) → Point
point_by f = vec (f X) (f Y) (f Z)

abbrev pub cell_by : (Axis → ℕ) → Cell
cell_by f = cell_numbered (f X) (f Y) (f Z)

-- a test that holds on every axis, on some axis
abbrev pub on_every : (Axis → Bool) → Bool
on_every t = t X && t Y && t Z

abbrev pub on_some : (Axis → Bool) → Bool
on_some t = t X || t Y || t Z
