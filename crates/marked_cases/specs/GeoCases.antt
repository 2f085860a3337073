-- "*(1,1,1) to T: 1.0. *Ray +z from (1,1,−1): hit at 1.0. *From (0,1,−1): a weight is 0, miss. *From (1,1,0): t is −0, miss"
-- (document 01, Points on each side), T being the triangle of the listing; "The marked case (0,1,−1) becomes grazed" (document 02, §3).
-- The rows of the geometry. Definitions only.
use Rattle.std.specs.Prelude.{List, [], ◌∷◌, ℕ, Float}
use Rattle.std.specs.Float.{binary32}
use Rattle.std.specs.Float.Ieee.{of_bits, to_bits, neg, add, sub, mul, div, lt, le, eq}
use Rattle.float.specs.Arith.{f0, f1}
use Rattle.float.specs.Case.{Case, ◌gives◌}
use Rattle.float.specs.RootOf.{root_of}
use Rattle.point.specs.Point.{vec, turned}
use Rattle.point.specs.declared.Point.{Point}
use Rattle.point.specs.declared.Axis.TheVariants.{Z}
use Rattle.geo_closest.specs.Closest.{facet_of, closest_on, dots_of, nearest}
use Rattle.geo_distance.specs.Distance.{squared_on, distance}
use Rattle.geo_ray.specs.Ray.{weights_x, reach_x, ray_x, ray_aligned}
use Rattle.geo_ray.specs.declared.RayHit.{RayHit}
use Rattle.geo_ray.specs.declared.RayHit.TheVariants.{Miss, Grazed, Hit}
use Rattle.marked_cases.specs.CompareCases.{minus_one}

-- the corners of T: (0,0,0), (4,0,0), (0,4,0)
abbrev four : Float
four = of_bits binary32 0x4080_0000

abbrev T0 : Point
T0 = vec f0 f0 f0

abbrev T1 : Point
T1 = vec four f0 f0

abbrev T2 : Point
T2 = vec f0 four f0

-- a float by its bit pattern
abbrev bits : Float → ℕ
bits x = to_bits binary32 x

-- a ray's answer by two numbers: 0 for a miss, 1 for grazed and 2 for a hit; and the bit pattern of where it hits
abbrev reply_of : RayHit → ℕ
reply_of Miss = 0
reply_of Grazed = 1
reply_of (Hit t) = 2

abbrev hit_bits : RayHit → ℕ
hit_bits Miss = 0
hit_bits Grazed = 0
hit_bits (Hit t) = bits t

unfoldable pub geo_cases : List Case
unfolding of_bits to_bits neg add sub mul div lt le eq root_of facet_of closest_on dots_of nearest squared_on ray_x ray_aligned
geo_cases =
    (bits (distance (vec f1 f1 f1) T0 T1 T2) gives 0x3f80_0000)
    ∷ (reply_of (ray_aligned (vec f1 f1 minus_one) T0 T1 T2 Z) gives 2)
    ∷ (hit_bits (ray_aligned (vec f1 f1 minus_one) T0 T1 T2 Z) gives 0x3f80_0000)
    ∷ (bits (weights_x (turned Z (vec f0 f1 minus_one)) (turned Z T0) (turned Z T1) (turned Z T2)).v1 gives 0)
    ∷ (reply_of (ray_aligned (vec f0 f1 minus_one) T0 T1 T2 Z) gives 1)
    ∷ (bits (reach_x (turned Z (vec f1 f1 f0)) (turned Z T0) (turned Z T1) (turned Z T2)) gives 0x8000_0000)
    ∷ (reply_of (ray_aligned (vec f1 f1 f0) T0 T1 T2 Z) gives 0)
    ∷ []
