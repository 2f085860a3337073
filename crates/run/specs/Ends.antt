-- "A second pass that marks only the last cell each hit reaches and then sums back along the line" (document 02, §4): how the crossing
-- counts come about in the quick pass. What they are stands in Signs; that both are the same is `same_counts` in proofs/Ends.antt.
-- Definitions only.
use Rattle.std.specs.Prelude.{ℕ, ◌+◌, ◌-◌, Bool, not, ◌&&◌, ltb, length, Float}
use Rattle.lists.specs.Range.{count_below, sum_below}
use Rattle.point.specs.declared.Axis.{Axis}
use Rattle.grid.specs.declared.Grid.{Grid}
use Rattle.grid.specs.declared.Cell.{Cell}
use Rattle.grid.specs.Axes.{count_on, size_on, cell_on, put}
use Rattle.geo_ray.specs.declared.RayHit.{RayHit}
use Rattle.mesh.specs.Mesh.{Mesh, triangles_in}
use Rattle.run.specs.Signs.{reaches, ray_from}

-- whether what a ray is answered reaches cell number i of a line, and no cell after it: of `count` cells there is none after the last, so
-- that a reach beyond the line ends at its last cell
abbrev pub ends_at : Float → ℕ → ℕ → RayHit → Bool
ends_at size count i hit = reaches size i hit && not (ltb (i + 1) count && reaches size (i + 1) hit)

-- what is marked: how many hits along the axis end at cell c
unfoldable pub ends : Grid → Mesh → Axis → Cell → ℕ
ends g m axis c = count_below (λ k. ends_at (size_on axis g) (count_on axis g) (cell_on axis c) (ray_from g m axis c k)) (length (triangles_in m))

-- the cell after c along the axis
abbrev pub after : Axis → Cell → Cell
after axis c = put axis (cell_on axis c + 1) c

-- what sums back: of the cells of c's line along the axis, those from c to the far end, with what `mark` has for each
unfoldable pub summed_back : Grid → Axis → (Cell → ℕ) → Cell → ℕ
summed_back g axis mark c = sum_below (λ j. mark (put axis (cell_on axis c + j) c)) (count_on axis g - cell_on axis c)
