-- "Signs. For each starting cell of the faces x=0, y=0, z=0 a ray runs from its centre along that axis against all triangles. A hit at
-- t adds one to that axis's count at each cell of the line whose number is at most floor(t / size); an infinite quotient reaches all of
-- them. A cell with two or three odd counts has its distance negated; 0 becomes −0." (document 01, "The run", 4). A count is the
-- number of triangles whose hit reaches the cell, with no order of rays or triangles in it. Definitions only.
use Rattle.std.specs.Prelude.{ℕ, ◌+◌, ◌*◌, ◌/◌, ◌%◌, Bool, true, false, ◌&&◌, ◌||◌, List, leb, ltb, eqb, ℤ, pos, negsuc, length, get_or, Float, if◌then◌else◌}
use Rattle.std.specs.Float.{nan}
use Rattle.std.specs.Float.Ieee.{neg}
use Rattle.float.specs.Arith.{◌⊘◌, ◌≺◌, ◌≐◌, f0}
use Rattle.float.specs.Steps.{abs_of, sign_bit}
use Rattle.float_floor.specs.Cell.{floor_of}
use Rattle.lists.specs.Range.{count_below, sum_below}
use Rattle.lists.specs.Table.{table}
use Rattle.point.specs.declared.Axis.{Axis}
use Rattle.point.specs.declared.Axis.TheVariants.{X, Y, Z}
use Rattle.grid.specs.declared.Grid.{Grid}
use Rattle.grid.specs.declared.Cell.{Cell}
use Rattle.grid.specs.Axes.{size_on, cell_on, cell_numbered}
use Rattle.grid.specs.Index.{cell_at, total}
use Rattle.grid.specs.Layers.{layers, layer_of}
use Rattle.grid.specs.Place.{centre_of}
use Rattle.geo_ray.specs.declared.RayHit.{RayHit}
use Rattle.geo_ray.specs.declared.RayHit.TheVariants.{Miss, Grazed, Hit}
use Rattle.geo_ray.specs.Ray.{ray_aligned}
use Rattle.mesh.specs.declared.Corners.{Corners}
use Rattle.mesh.specs.Mesh.{Mesh, triangles_in, corners_at}

-- the starting cell of the line through c along the axis
abbrev pub start_of : Axis → Cell → Cell
start_of X c = cell_numbered 0 c.y c.z
start_of Y c = cell_numbered c.x 0 c.z
start_of Z c = cell_numbered c.x c.y 0

-- the ray from there against triangle k
unfoldable pub ray_from : Grid → Mesh → Axis → Cell → ℕ → RayHit
ray_from g m axis c k =
    let t = corners_at m k in
    ray_aligned (centre_of g (start_of axis c)) t.a t.b t.c axis

-- whether number i of a line is at most the floor
abbrev pub at_most : ℕ → ℤ → Bool
at_most i (pos n) = leb i n
at_most i (negsuc n) = false

-- whether what a ray is answered reaches cell number i of a line whose cells are `size` long; a miss reaches none, and a ray that grazed
-- "still adds no crossing" (document 02, §3)
abbrev pub reaches : Float → ℕ → RayHit → Bool
reaches size i Miss = false
reaches size i Grazed = false
reaches size i (Hit t) = at_most i (floor_of (t ⊘ size))

unfoldable pub crosses : Grid → Mesh → Axis → Cell → ℕ → Bool
crosses g m axis c k = reaches (size_on axis g) (cell_on axis c) (ray_from g m axis c k)

-- the crossing count of cell c along the axis
unfoldable pub crossings : Grid → Mesh → Axis → Cell → ℕ
crossings g m axis c = count_below (crosses g m axis c) (length (triangles_in m))

-- ---- "3 × cells (x, y, z of each cell in turn)": what the lent crossings hold

abbrev pub axis_at : ℕ → Axis
axis_at i = if eqb (i % 3) 0 then X else (if eqb (i % 3) 1 then Y else Z)

unfoldable pub crossings_at : Grid → Mesh → ℕ → ℕ
crossings_at g m i = crossings g m (axis_at i) (cell_at g (i / 3))

unfoldable pub all_crossings : Grid → Mesh → List ℕ
all_crossings g m = table (crossings_at g m) (3 * total g)

-- ---- the sign

abbrev pub is_odd : ℕ → Bool
is_odd n = eqb (n % 2) 1

-- at least two of the three are odd
abbrev pub two_odd : ℕ → ℕ → ℕ → Bool
two_odd x y z = (is_odd x && is_odd y) || (is_odd x && is_odd z) || (is_odd y && is_odd z)

-- the cell is deemed inside
unfoldable pub inside : Grid → Mesh → Cell → Bool
inside g m c = two_odd (crossings g m X c) (crossings g m Y c) (crossings g m Z c)

unfoldable pub signed : Grid → Mesh → List Float → ℕ → Float
signed g m field c = if inside g m (cell_at g c) then neg (get_or field c nan) else get_or field c nan

unfoldable pub signed_field : Grid → Mesh → List Float → List Float
signed_field g m field = table (signed g m field) (total g)

-- ---- "Row z: how many cells of layer z" are inside, where the layers lie along the upright axis (document 02, §9). A row is the sum of its cells'
-- weights, which the edition of the table says (§11).

-- Edition 1: "a cell counts as inside when at least two of its crossing counts are odd, which is when its sign bit is set" (document 01, "The
-- run"; document 02, §2). So −0 counts, and +0 does not. That the one is when the other is, of every job answered Done, is shown in crate
-- `row_meaning`.
abbrev pub whole_weight : Float → ℕ
whole_weight d = if sign_bit d then 1 else 0

-- Edition 2: "Rows of edition 2 are in half cells: 2 for a set sign bit and a magnitude above zero, 1 for magnitude zero with either sign, 0
-- otherwise" (document 02, §11)
abbrev pub half_weight : Float → ℕ
half_weight d = if sign_bit d && (f0 ≺ abs_of d) then 2 else (if abs_of d ≐ f0 then 1 else 0)

-- with what weight a cell's distance is added to its row; a job of another edition is refused
abbrev pub row_weight : ℕ → Float → ℕ
row_weight edition d = if eqb edition 2 then half_weight d else whole_weight d

-- the weights of the cells of layer n, of those below c in the order of their index
unfoldable pub row_below : (Float → ℕ) → Grid → List Float → ℕ → ℕ → ℕ
row_below w g field n c = sum_below (λ i. if eqb (layer_of g i) n then w (get_or field i nan) else 0) c

unfoldable pub rows_by : (Float → ℕ) → Grid → List Float → List ℕ
rows_by w g field = table (λ n. row_below w g field n (total g)) (layers g)

abbrev pub rows : ℕ → Grid → List Float → List ℕ
rows edition g field = rows_by (row_weight edition) g field
