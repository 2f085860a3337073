-- What callers cite of the distance. The idea: the dot of a vector with itself is a NaN or has no sign bit (point's `dot_self`), and a root
-- of such a value is such a value (float's `root_distance`). Assumes nothing.
use mathlib.Core.Path.{◌≡◌, refl, sym, subst}
use mathlib.Core.Bool.{Bool, true, false, not}
use lib.Dec.{T}
use lib.Ieee.{Float, nan, inf, fin, is_nan}
use lib.Ieee.Bits.{is_false}
use Rattle.float.specs.Distance.{Distance}
use Rattle.float.specs.RootOf.{root_of}
use Rattle.float.proofs.Order.{distance_no_nan}
use Rattle.float.proofs.Roots.{root_distance}
use Rattle.point.specs.Point.{◌-ᵥ◌}
use Rattle.point.specs.declared.Point.{Point}
use Rattle.point.proofs.Squares.{dot_self}
use Rattle.geo_closest.specs.declared.Facet.{Facet}
use Rattle.geo_closest.specs.Closest.{closest_on}
use Rattle.geo_distance.specs.Distance.{squared_on, distance_on}

-- a squared distance that is no NaN has no sign bit
pub squared_distance : (f : Facet) (p : Point) → T (not (is_nan (squared_on f p))) → Distance (squared_on f p)
unfolding squared_on
squared_distance f p h = dot_self (p -ᵥ closest_on f p) h

root_of_nan : (x : Float) → is_nan x ≡ true → is_nan (root_of x) ≡ true
unfolding is_nan root_of
root_of_nan nan e = refl
root_of_nan (inf s) e = absurd (subst T (sym e) tt)
root_of_nan (fin s m k) e = absurd (subst T (sym e) tt)

-- the distance is a NaN exactly where its square is one: no root is needed to see it
pub nan_alike : (f : Facet) (p : Point) → is_nan (distance_on f p) ≡ is_nan (squared_on f p)
nan_alike f p = go (is_nan (squared_on f p)) refl
  where
    go : (t : Bool) → is_nan (squared_on f p) ≡ t → is_nan (distance_on f p) ≡ t
    go true e = root_of_nan (squared_on f p) e
    go false e = is_false (is_nan (distance_on f p)) (distance_no_nan (distance_on f p) (root_distance (squared_on f p) (squared_distance f p (subst (λ (t : Bool). T (not t)) (sym e) tt))))

-- a distance that is no NaN has no sign bit
pub distance_is : (f : Facet) (p : Point) → T (not (is_nan (distance_on f p))) → Distance (distance_on f p)
distance_is f p h = root_distance (squared_on f p) (squared_distance f p (subst (λ (t : Bool). T (not t)) (nan_alike f p) h))
