-- The closest point, as document 01's sentence runs. Assumes nothing.
use Rattle.std.specs.Prelude.{if◌then◌else◌}
use mathlib.Core.Path.{◌≡◌, refl}
use mathlib.Core.Bool.{Bool, true, false, ◌&&◌, ◌||◌}
use Rattle.point.specs.Point.{◌≐ᵥ◌}
use Rattle.point.specs.declared.Point.{Point}
use Rattle.geo_closest.specs.Closest.{closest_point_segment, closest_point_equal, facet_of, dots_of, nearest, closest_on, closest_point_triangle}

-- the one test that two corners are equal, before the cases, is the chain of cases
chain : {A : Type 0} (u v w : Bool) (one ac ab proper : A) → (if u || v || w then (if u && v && w then one else (if u then ac else ab)) else proper) ≡ (if u && v && w then one else (if u then ac else (if v || w then ab else proper)))
chain true true true one ac ab proper = refl
chain true true false one ac ab proper = refl
chain true false w one ac ab proper = refl
chain false true w one ac ab proper = refl
chain false false true one ac ab proper = refl
chain false false false one ac ab proper = refl

-- "equal corners first (a=b=c: a; a=b: segment a,c; b=c or a=c: segment a,b) [..]; then the regions"
pub equal_corners_first : (p a b c : Point) → closest_point_triangle p a b c ≡ (if (a ≐ᵥ b) && (b ≐ᵥ c) && (a ≐ᵥ c) then a else (if a ≐ᵥ b then closest_point_segment p a c else (if (b ≐ᵥ c) || (a ≐ᵥ c) then closest_point_segment p a b else nearest (dots_of (facet_of a b c) p) (facet_of a b c))))
unfolding closest_on closest_point_equal facet_of
equal_corners_first p a b c =
    chain (a ≐ᵥ b) (b ≐ᵥ c) (a ≐ᵥ c) a (closest_point_segment p a c) (closest_point_segment p a b) (nearest (dots_of (facet_of a b c) p) (facet_of a b c))
