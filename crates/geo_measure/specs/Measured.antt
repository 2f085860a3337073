-- By what a triangle is measured from a point, by the method of the signs (document 02, §8): with Raycast its distance, which the rays give a sign when
-- the run is over; with Normal its signed distance. And the square of either, from which `signed_root` has it back. Definitions only.
use Rattle.std.specs.Prelude.{Float}
use Rattle.terms.specs.declared.SignMethod.{SignMethod}
use Rattle.terms.specs.declared.SignMethod.TheVariants.{Raycast, Normal}
use Rattle.point.specs.declared.Point.{Point}
use Rattle.geo_closest.specs.declared.Facet.{Facet}
use Rattle.geo_distance.specs.Distance.{squared_on, distance_on}
use Rattle.geo_side.specs.Side.{signed_on, signed_squared_on}

abbrev pub measured : SignMethod → Facet → Point → Float
measured Raycast f p = distance_on f p
measured Normal f p = signed_on f p

abbrev pub squared_by : SignMethod → Facet → Point → Float
squared_by Raycast f p = squared_on f p
squared_by Normal f p = signed_squared_on f p
