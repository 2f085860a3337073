-- How many rays graze, a line, a row, an axis and a triangle at a time; and that no sum on the way passes 64 bits, since a row has at most
-- 1,024 lines and an axis as many rows. Assumes nothing.
use Prim.Native.Nat.{ℕ, ◌+◌, ◌*◌, ◌≤◌, ◌<◌}
use native.Mathlib.Omega.{arith}
use mathlib.Core.Path.{◌≡◌, refl, sym, ap}
use mathlib.Core.Bool.{true, cond}
use lib.ListN.{length}
use Rattle.point.specs.declared.Axis.{Axis}
use Rattle.point.specs.declared.Axis.TheVariants.{X, Y, Z}
use Rattle.grid.specs.declared.Grid.{Grid}
use Rattle.grid.specs.Axes.{count_on, next}
use Rattle.grid.specs.Bounds.{in_bounds}
use Rattle.grid.proofs.Facts.{bounds_of, on_axis}
use Rattle.geo_ray.specs.declared.RayHit.{RayHit}
use Rattle.geo_ray.specs.declared.RayHit.TheVariants.{Miss, Grazed, Hit}
use Rattle.geo_ray.specs.Ray.{is_grazed}
use Rattle.lists.specs.Range.{sum_below}
use Rattle.lists.proofs.Range.{count_none, count_more, count_le, count_failed, count_nowhere, count_same, sum_none, sum_more, sum_le, sum_same}
use Rattle.mesh.specs.declared.Corners.{Corners}
use Rattle.mesh.specs.Mesh.{Mesh, triangles_in, corners_at}
use Rattle.run.specs.Signs.{ray_from}
use Rattle.run.specs.Grazed.{grazed_in_row, grazed_in_rows, grazed_on, grazed_along, grazed}
use Rattle.run_cross_lines.specs.Pass.{hit_on, grazed_by}

-- ---- a row

pub line_grazed_le : (hit : RayHit) → cond (is_grazed hit) 1 0 ≤ 1
line_grazed_le Miss = omega arith
line_grazed_le Grazed = omega arith
line_grazed_le (Hit t) = omega arith

pub row_grazed_first : (hit : ℕ → RayHit) → 0 ≡ grazed_in_row 0 hit
row_grazed_first hit = sym (count_none (λ i. is_grazed (hit i)))

-- one line more
pub row_grazed_more : (hit : ℕ → RayHit) (v : ℕ) → grazed_in_row (v + 1) hit ≡ grazed_in_row v hit + cond (is_grazed (hit v)) 1 0
row_grazed_more hit v = count_more (λ i. is_grazed (hit i)) v

-- a line that is missed
pub row_grazed_missed : (hit : ℕ → RayHit) (v : ℕ) → hit v ≡ Miss → grazed_in_row (v + 1) hit ≡ grazed_in_row v hit
row_grazed_missed hit v e = count_failed (λ i. is_grazed (hit i)) v (ap is_grazed e)

-- lines that are all missed
pub row_grazed_none : (hit : ℕ → RayHit) (count : ℕ) → ((v : ℕ) → v < count → hit v ≡ Miss) → grazed_in_row count hit ≡ 0
row_grazed_none hit count h = count_nowhere (λ i. is_grazed (hit i)) count (λ v l. ap is_grazed (h v l))

pub row_grazed_le : (hit : ℕ → RayHit) (count : ℕ) → grazed_in_row count hit ≤ count
row_grazed_le hit count = count_le (λ i. is_grazed (hit i)) count

-- ---- the rows of an axis

-- other answers that are the same on the grid's lines
pub axis_grazed_as : (g : Grid) (axis : Axis) (p q : ℕ → ℕ → RayHit) → ((u v : ℕ) → v < count_on (next (next axis)) g → p u v ≡ q u v)
    → grazed_on g axis p ≡ grazed_on g axis q
axis_grazed_as g axis p q h =
    sum_same _ _ (count_on (next axis) g) (λ u l. count_same _ _ (count_on (next (next axis)) g) (λ v k. ap is_grazed (h u v k)))

pub rows_grazed_first : (g : Grid) (axis : Axis) (hit : ℕ → ℕ → RayHit) → 0 ≡ grazed_in_rows g axis 0 hit
rows_grazed_first g axis hit = sym (sum_none (λ u. grazed_in_row (count_on (next (next axis)) g) (hit u)))

-- one row more
pub rows_grazed_more : (g : Grid) (axis : Axis) (hit : ℕ → ℕ → RayHit) (u : ℕ)
    → grazed_in_rows g axis (u + 1) hit ≡ grazed_in_rows g axis u hit + grazed_in_row (count_on (next (next axis)) g) (hit u)
rows_grazed_more g axis hit u = sum_more (λ i. grazed_in_row (count_on (next (next axis)) g) (hit i)) u

pub rows_grazed_le : (g : Grid) (axis : Axis) (hit : ℕ → ℕ → RayHit) (u : ℕ) → in_bounds g ≡ true → grazed_in_rows g axis u hit ≤ u * 1024
rows_grazed_le g axis hit u b =
    sum_le _ 1024 u (λ i h. omega (arith, row_grazed_le (hit i) (count_on (next (next axis)) g), (on_axis (bounds_of g b) (next (next axis))).few))

pub axis_grazed_le : (g : Grid) (axis : Axis) (hit : ℕ → ℕ → RayHit) → in_bounds g ≡ true → grazed_on g axis hit ≤ 1048576
axis_grazed_le g axis hit b =
    omega (arith, rows_grazed_le g axis hit (count_on (next axis) g) b, (on_axis (bounds_of g b) (next axis)).few)

-- ---- the triangles

pub triangle_grazed_le : (g : Grid) (t : Corners) → in_bounds g ≡ true → grazed_by g t ≤ 3145728
unfolding grazed_by
triangle_grazed_le g t b = omega (arith, axis_grazed_le g X (hit_on g t X) b, axis_grazed_le g Y (hit_on g t Y) b, axis_grazed_le g Z (hit_on g t Z) b)

-- those of the triangles before k
abbrev pub grazed_before : Grid → Mesh → ℕ → ℕ
grazed_before g m k = sum_below (λ i. grazed_by g (corners_at m i)) k

pub triangles_grazed_first : (g : Grid) (m : Mesh) → 0 ≡ grazed_before g m 0
triangles_grazed_first g m = sym (sum_none (λ i. grazed_by g (corners_at m i)))

pub triangles_grazed_more : (g : Grid) (m : Mesh) (k : ℕ) → grazed_before g m (k + 1) ≡ grazed_before g m k + grazed_by g (corners_at m k)
triangles_grazed_more g m k = sum_more (λ i. grazed_by g (corners_at m i)) k

pub triangles_grazed_le : (g : Grid) (m : Mesh) (k : ℕ) → in_bounds g ≡ true → grazed_before g m k ≤ k * 3145728
triangles_grazed_le g m k b = sum_le _ 3145728 k (λ i h. triangle_grazed_le g (corners_at m i) b)

-- the rays of the definition are those of the lines
along : (g : Grid) (m : Mesh) (axis : Axis) (k : ℕ) → grazed_along g m axis k ≡ grazed_on g axis (hit_on g (corners_at m k) axis)
unfolding grazed_along ray_from hit_on
along g m X k = refl
along g m Y k = refl
along g m Z k = refl

pub grazed_all : (g : Grid) (m : Mesh) → grazed_before g m (length (triangles_in m)) ≡ grazed g m
unfolding grazed grazed_by
grazed_all g m =
    sum_same _ _ (length (triangles_in m))
    (λ k h. sym (λ i. along g m X k i + along g m Y k i + along g m Z k i))
