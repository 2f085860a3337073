-- The ray test, put together from its parts. Assumes nothing.
use mathlib.Core.Path.{◌≡◌, refl}
use Rattle.point.specs.Point.{turned}
use Rattle.point.specs.declared.Point.{Point}
use Rattle.point.specs.declared.Axis.{Axis}
use Rattle.geo_ray.specs.Ray.{ray_x, ray_aligned, cast_of, across_z, across_y, along_x, ray_of}

-- the parts of the triangle and of the origin's three coordinates make up the test of document 01: the same operations, in the same order
pub in_parts : (o v0 v1 v2 : Point) (axis : Axis) → (let f = cast_of axis v0 v1 v2 in let q = turned axis o in ray_of (across_z f q.z) (across_y f q.y) (along_x f q.x) ≡ ray_aligned o v0 v1 v2 axis)
unfolding ray_aligned ray_x cast_of across_z across_y along_x ray_of
in_parts o v0 v1 v2 axis = refl
