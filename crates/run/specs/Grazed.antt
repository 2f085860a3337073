-- "Done carries the total over all rays and triangles, which may pass 32 bits" (document 02, §3): how often a ray grazed a triangle. The
-- rays are those of the signs, one from each starting cell of the faces x=0, y=0, z=0 along that axis; each is tried against every
-- triangle, and a ray through an edge that two triangles share grazes both. Definitions only.
use Rattle.std.specs.Prelude.{ℕ, ◌+◌, length}
use Rattle.lists.specs.Range.{count_below, sum_below}
use Rattle.point.specs.declared.Axis.{Axis}
use Rattle.point.specs.declared.Axis.TheVariants.{X, Y, Z}
use Rattle.grid.specs.declared.Grid.{Grid}
use Rattle.grid.specs.Axes.{count_on, next, cell_from}
use Rattle.geo_ray.specs.declared.RayHit.{RayHit}
use Rattle.geo_ray.specs.Ray.{is_grazed}
use Rattle.mesh.specs.Mesh.{Mesh, triangles_in}
use Rattle.run.specs.Signs.{ray_from}

-- of the first `count` rays of a row, how many are answered grazed, where `answer v` is what ray v is answered
abbrev pub grazed_in_row : ℕ → (ℕ → RayHit) → ℕ
grazed_in_row count answer = count_below (λ v. is_grazed (answer v)) count

-- of the first `rows` rows of rays along an axis. A starting cell has number 0 on the axis, u on the next, which is its row, and v on the
-- one after that.
abbrev pub grazed_in_rows : Grid → Axis → ℕ → (ℕ → ℕ → RayHit) → ℕ
grazed_in_rows g axis rows answer = sum_below (λ u. grazed_in_row (count_on (next (next axis)) g) (answer u)) rows

-- of all rays along an axis
abbrev pub grazed_on : Grid → Axis → (ℕ → ℕ → RayHit) → ℕ
grazed_on g axis answer = grazed_in_rows g axis (count_on (next axis) g) answer

-- how many rays along the axis graze triangle k
unfoldable pub grazed_along : Grid → Mesh → Axis → ℕ → ℕ
grazed_along g m axis k = grazed_on g axis (λ u v. ray_from g m axis (cell_from axis 0 u v) k)

-- over all rays and triangles
unfoldable pub grazed : Grid → Mesh → ℕ
grazed g m = sum_below (λ k. grazed_along g m X k + grazed_along g m Y k + grazed_along g m Z k) (length (triangles_in m))
