-- "Bounds on a job" (document 01), the rows that speak of the grid, over those of an axis (`grid_axis`, AxisBounds) and of the product of the counts
-- (`grid_index`, ByCounts), and the number of the upright axis. "1: grid out of bounds" is the reply where one of them fails.
-- Definitions only.
use Rattle.std.specs.Prelude.{Bool, true, ◌&&◌, List, [], ◌∷◌, ℕ, leb}
use Rattle.grid_axis.specs.AxisBounds.{axis_in_bounds}
use Rattle.grid_index.specs.ByCounts.{is_total}
use Rattle.point.specs.declared.Axis.{Axis}
use Rattle.grid.specs.declared.Grid.{Grid}
use Rattle.grid.specs.Axes.{count_on, first_on, size_on, on_every}
use Rattle.grid.specs.Index.{total}

-- what is asked of each axis alike
abbrev pub is_axis : Grid → Axis → Bool
is_axis g a = axis_in_bounds (count_on a g) (first_on a g) (size_on a g)

-- "an axis outside 0 to 2 is a case of 1" (document 02, §9)
abbrev pub is_upright : ℕ → Bool
is_upright u = leb u 2

-- every test that a grid must pass
abbrev pub bounds : Grid → List Bool
bounds g = on_every (is_axis g) ∷ is_upright g.upright ∷ is_total (total g) ∷ []

abbrev pub all : List Bool → Bool
all [] = true
all (t ∷ ts) = t && all ts

unfoldable pub in_bounds : Grid → Bool
in_bounds g = all (bounds g)
