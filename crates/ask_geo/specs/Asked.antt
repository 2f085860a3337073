-- "Geometry asked by itself answers 2 for a coordinate not finite or above 2,097,152 in magnitude, then 6 for a NaN in its result"
-- (document 01). Definitions only.
use Rattle.std.specs.Prelude.{Bool, false, ◌&&◌, ◌||◌, Float, if◌then◌else◌}
use Rattle.refusals.specs.Numbers.{Reply, refused, given}
use Rattle.std.specs.Float.{binary32}
use Rattle.std.specs.Float.Ieee.{of_bits, is_nan}
use Rattle.float.specs.Steps.{finite_at_most}
use Rattle.point.specs.declared.Point.{Point}
use Rattle.point.specs.declared.Axis.{Axis}
use Rattle.geo_closest.specs.Closest.{closest_point_segment, closest_point_triangle}
use Rattle.geo_distance.specs.Distance.{distance}
use Rattle.geo_side.specs.Side.{signed_distance}
use Rattle.geo_box.specs.Box.{padded_box}
use Rattle.geo_ray.specs.Ray.{ray_aligned}
use Rattle.geo_box.specs.declared.TriangleBox.{TriangleBox}
use Rattle.geo_ray.specs.declared.RayHit.{RayHit}
use Rattle.geo_ray.specs.declared.RayHit.TheVariants.{Miss, Grazed, Hit}

-- ---- the two checks

-- 2,097,152, which is 2 ^ 21
abbrev pub bound : Float
bound = of_bits binary32 0x4a00_0000

unfoldable pub within : Point → Bool
within p = finite_at_most p.x bound && finite_at_most p.y bound && finite_at_most p.z bound

unfoldable pub point_nan : Point → Bool
point_nan p = is_nan p.x || is_nan p.y || is_nan p.z

abbrev pub box_nan : TriangleBox → Bool
box_nan b = point_nan b.low || point_nan b.high

abbrev pub ray_nan : RayHit → Bool
ray_nan Miss = false
ray_nan Grazed = false
ray_nan (Hit t) = is_nan t

-- ---- what is answered: a number of the paper, or the value

-- to a question whose coordinates are within the bound or not, and whose result is x: the first check that fails decides
abbrev pub answered : {A : Type 0} → Bool → (A → Bool) → A → Reply A
answered inside nan x = if inside then (if nan x then refused 6 else given x) else refused 2

-- ---- the questions

abbrev pub asked_box : Point → Point → Point → Reply TriangleBox
asked_box a b c = answered (within a && within b && within c) box_nan (padded_box a b c)

abbrev pub asked_segment : Point → Point → Point → Reply Point
asked_segment p a b = answered (within p && within a && within b) point_nan (closest_point_segment p a b)

abbrev pub asked_triangle : Point → Point → Point → Point → Reply Point
asked_triangle p a b c = answered (within p && within a && within b && within c) point_nan (closest_point_triangle p a b c)

abbrev pub asked_distance : Point → Point → Point → Point → Reply Float
asked_distance p a b c = answered (within p && within a && within b && within c) is_nan (distance p a b c)

abbrev pub asked_signed_distance : Point → Point → Point → Point → Reply Float
asked_signed_distance p a b c = answered (within p && within a && within b && within c) is_nan (signed_distance p a b c)

abbrev pub asked_ray : Point → Point → Point → Point → Axis → Reply RayHit
asked_ray o v0 v1 v2 axis = answered (within o && within v0 && within v1 && within v2) ray_nan (ray_aligned o v0 v1 v2 axis)

-- ---- a box and a ray's reply hold no NaN: these two questions are refused by 2, and never by 6

abbrev pub or_2 : {A : Type 0} → Bool → A → Reply A
or_2 inside x = if inside then given x else refused 2

abbrev pub box_or_2 : Point → Point → Point → Reply TriangleBox
box_or_2 a b c = or_2 (within a && within b && within c) (padded_box a b c)

abbrev pub ray_or_2 : Point → Point → Point → Point → Axis → Reply RayHit
ray_or_2 o v0 v1 v2 axis = or_2 (within o && within v0 && within v1 && within v2) (ray_aligned o v0 v1 v2 axis)
