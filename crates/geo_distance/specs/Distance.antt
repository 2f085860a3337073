-- "Distance: length of point − closest" (document 01): the root of the dot of that difference with itself. The dot stands by itself
-- too, for a caller that can tell from it that no root is needed. Definitions only.
use Rattle.std.specs.Prelude.{Float}
use Rattle.float.specs.RootOf.{root_of}
use Rattle.point.specs.Point.{◌-ᵥ◌, ◌·◌}
use Rattle.point.specs.declared.Point.{Point}
use Rattle.geo_closest.specs.Closest.{facet_of, closest_on}
use Rattle.geo_closest.specs.declared.Facet.{Facet}

unfoldable pub squared_on : Facet → Point → Float
squared_on f p = (p -ᵥ closest_on f p) · (p -ᵥ closest_on f p)

abbrev pub distance_on : Facet → Point → Float
distance_on f p = root_of (squared_on f p)

-- of p to the triangle a, b, c
abbrev pub squared : Point → Point → Point → Point → Float
squared p a b c = squared_on (facet_of a b c) p

abbrev pub distance : Point → Point → Point → Point → Float
distance p a b c = distance_on (facet_of a b c) p
