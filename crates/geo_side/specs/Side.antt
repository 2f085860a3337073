-- "Bring in the source's Normal method: `point_triangle_signed_distance`, where a dot of exactly 0 gives the negative" (document 02, §8): the distance,
-- positive on the side of the triangle to which its normal points, and negative on the other and in its plane. Definitions only.
use Rattle.std.specs.Prelude.{Bool, Float, if◌then◌else◌}
use Rattle.std.specs.Float.Ieee.{neg}
use Rattle.float.specs.Arith.{◌≺◌, f0}
use Rattle.point.specs.Point.{◌-ᵥ◌, ◌·◌, ◌×ᵥ◌}
use Rattle.point.specs.declared.Point.{Point}
use Rattle.geo_closest.specs.Closest.{facet_of, closest_on}
use Rattle.geo_closest.specs.declared.Facet.{Facet}
use Rattle.geo_distance.specs.Distance.{squared_on, distance_on}

-- the source's `triangle_normal`, which is not normalised: seen from where it points to, the corners a, b, c run counter-clockwise. Of a triangle that
-- is a segment or a point it is zero, as far as rounding lets it be
abbrev pub normal_of : Facet → Point
normal_of f = f.ab ×ᵥ f.ac

-- the vector v points to the side to which the normal n does: their dot is above 0. A dot of exactly 0 is not, nor is a NaN
abbrev pub ahead : Point → Point → Bool
ahead v n = f0 ≺ v · n

-- p lies above the triangle: from the closest point it is on the normal's side
unfoldable pub above : Facet → Point → Bool
above f p = ahead (p -ᵥ closest_on f p) (normal_of f)

-- a length as it is above, and negated below; of 0 that is −0
abbrev pub sided : Bool → Float → Float
sided up d = if up then d else neg d

-- the distance with its sign, and the square with the same sign, for a caller that can tell from it that no root is needed
unfoldable pub signed_on : Facet → Point → Float
signed_on f p = sided (above f p) (distance_on f p)

unfoldable pub signed_squared_on : Facet → Point → Float
signed_squared_on f p = sided (above f p) (squared_on f p)

-- of p to the triangle a, b, c
abbrev pub signed_distance : Point → Point → Point → Point → Float
signed_distance p a b c = signed_on (facet_of a b c) p

-- ---- a part of the code

-- the square of the length from p to q, with the sign of the side of q on which p lies
abbrev pub signed_square_to : Point → Point → Point → Float
signed_square_to n p q = sided (ahead (p -ᵥ q) n) ((p -ᵥ q) · (p -ᵥ q))
