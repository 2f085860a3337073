-- "Reject a job when, on some axis, a triangle's unpadded corners all lie below the grid box's minimum or all lie above its maximum.
-- Touching is allowed." (document 02, §6). Definitions only.
use Rattle.std.specs.Prelude.{Bool, not, ◌&&◌, ◌||◌, Float}
use Rattle.float.specs.Arith.{◌≺◌}
use Rattle.lists.specs.Every.{every}
use Rattle.point.specs.Point.{coordinate}
use Rattle.grid.specs.declared.Grid.{Grid}
use Rattle.grid.specs.declared.BoundingBox.{BoundingBox}
use Rattle.grid.specs.Axes.{on_some}
use Rattle.grid.specs.Place.{grid_box}
use Rattle.mesh.specs.declared.Corners.{Corners}
use Rattle.mesh.specs.Mesh.{Mesh, triangles_in, corners_of}

-- three coordinates on an axis: all below low, all above high. What touches is neither. None of them is a NaN: refusals 1 and 2 come before.
abbrev pub corners_below : Float → Float → Float → Float → Bool
corners_below low a b c = (a ≺ low) && (b ≺ low) && (c ≺ low)

abbrev pub corners_above : Float → Float → Float → Float → Bool
corners_above high a b c = (high ≺ a) && (high ≺ b) && (high ≺ c)

abbrev pub beyond_one_side : Float → Float → Float → Float → Float → Bool
beyond_one_side low high a b c = corners_below low a b c || corners_above high a b c

-- "on some axis", of a triangle's corners as they are given
unfoldable pub off_box : BoundingBox → Corners → Bool
off_box b t =
    on_some (λ axis. beyond_one_side (coordinate axis b.min) (coordinate axis b.max) (coordinate axis t.a) (coordinate axis t.b) (coordinate axis t.c))

-- the grid's box is document 01's: "Box minimum: first − size·0.5. Maximum: that + (count as f32)·size", each operation rounded
abbrev pub off_grid : Grid → Corners → Bool
off_grid g t = off_box (grid_box g) t

-- no triangle of the mesh is off the grid: an unused vertex and a left-over index are no triangle's
unfoldable pub all_on_grid : Grid → Mesh → Bool
all_on_grid g m = every (λ t. not (off_grid g (corners_of m.vertices t))) (triangles_in m)
