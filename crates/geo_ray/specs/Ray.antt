-- "Aligned ray: weights w0, w1, w2 and t exactly as in 001, with the products summed w0, w2, w1. The answer of a ray test is either a
-- miss or a hit carrying its f32 distance t. Hit only if all weights are below 0 or all above 0, and t > 0" (document 01). "The ray test
-- shall have a third reply, grazed: not a hit, at least one weight is 0, and not one above 0 with another below 0 (all three 0
-- included), wherever t lies" (document 02, §3). Definitions only.
use Rattle.std.specs.Prelude.{Bool, true, false, not, ◌&&◌, ◌||◌, Float, if◌then◌else◌}
use Rattle.std.specs.Float.Ieee.{neg}
use Rattle.float.specs.Arith.{◌⊕◌, ◌⊖◌, ◌⊗◌, ◌⊘◌, ◌≺◌, ◌≐◌, f0}
use Rattle.point.specs.Point.{◌-ᵥ◌, turned}
use Rattle.point.specs.declared.Point.{Point}
use Rattle.point.specs.declared.Axis.{Axis}
use Rattle.geo_ray.specs.declared.Three.{Three}
use Rattle.geo_ray.specs.declared.Cast.{Cast}
use Rattle.geo_ray.specs.declared.RayHit.{RayHit}
use Rattle.geo_ray.specs.declared.RayHit.TheVariants.{Miss, Grazed, Hit}

-- ---- the test, for a ray along x

-- the cross product of p and the edge e in the plane of y and z
abbrev pub weight : Point → Point → Float
weight p e = p.z ⊗ e.y ⊖ p.y ⊗ e.z

abbrev pub weights_x : Point → Point → Point → Point → Three
weights_x o v0 v1 v2 = record { v0 = weight (o -ᵥ v1) (v2 -ᵥ v1); v1 = weight (o -ᵥ v2) (v0 -ᵥ v2); v2 = weight (o -ᵥ v0) (v1 -ᵥ v0) }

-- t, from the weights and from where the origin lies along x, seen from each corner
abbrev pub reach : Float → Float → Float → Float → Float → Float → Float
reach w0 w1 w2 x0 x1 x2 = neg (w0 ⊗ x0 ⊕ w2 ⊗ x2 ⊕ w1 ⊗ x1) ⊘ (w0 ⊕ w1 ⊕ w2)

abbrev pub reach_x : Point → Point → Point → Point → Float
reach_x o v0 v1 v2 =
    let w = weights_x o v0 v1 v2 in reach w.v0 w.v1 w.v2 (o -ᵥ v0).x (o -ᵥ v1).x (o -ᵥ v2).x

abbrev pub all_below : Float → Float → Float → Bool
all_below w0 w1 w2 = (w0 ≺ f0) && (w1 ≺ f0) && (w2 ≺ f0)

abbrev pub all_above : Float → Float → Float → Bool
all_above w0 w1 w2 = (f0 ≺ w0) && (f0 ≺ w1) && (f0 ≺ w2)

-- "Hit only if all weights are below 0 or all above 0, and t > 0"
abbrev pub hits : Float → Float → Float → Float → Bool
hits w0 w1 w2 t = (all_below w0 w1 w2 || all_above w0 w1 w2) && (f0 ≺ t)

-- "at least one weight is 0": -0 is 0 too
abbrev pub some_zero : Float → Float → Float → Bool
some_zero w0 w1 w2 = (w0 ≐ f0) || (w1 ≐ f0) || (w2 ≐ f0)

-- "one above 0 with another below 0"
abbrev pub on_both_sides : Float → Float → Float → Bool
on_both_sides w0 w1 w2 = ((f0 ≺ w0) || (f0 ≺ w1) || (f0 ≺ w2)) && ((w0 ≺ f0) || (w1 ≺ f0) || (w2 ≺ f0))

abbrev pub grazes : Float → Float → Float → Bool
grazes w0 w1 w2 = some_zero w0 w1 w2 && not (on_both_sides w0 w1 w2)

abbrev pub reply : Float → Float → Float → Float → RayHit
reply w0 w1 w2 t =
    if hits w0 w1 w2 t then Hit t
    else (if grazes w0 w1 w2 then Grazed
    else Miss)

abbrev pub is_grazed : RayHit → Bool
is_grazed Miss = false
is_grazed Grazed = true
is_grazed (Hit t) = false

unfoldable pub ray_x : Point → Point → Point → Point → RayHit
ray_x o v0 v1 v2 = let w = weights_x o v0 v1 v2 in reply w.v0 w.v1 w.v2 (reach_x o v0 v1 v2)

-- ---- along any axis: with the coordinates turned, it is along x

unfoldable pub ray_aligned : Point → Point → Point → Point → Axis → RayHit
ray_aligned o v0 v1 v2 axis = ray_x (turned axis o) (turned axis v0) (turned axis v1) (turned axis v2)

-- ---- the same in parts: of the triangle, and of each coordinate of the origin

unfoldable pub cast_of : Axis → Point → Point → Point → Cast
cast_of axis v0 v1 v2 =
    let a = turned axis v0 in
    let b = turned axis v1 in
    let c = turned axis v2 in
    record { v0 = a; v1 = b; v2 = c; e01 = b -ᵥ a; e12 = c -ᵥ b; e20 = a -ᵥ c }

-- of each weight, the product that depends on the origin's z, and the one that depends on its y
unfoldable pub across_z : Cast → Float → Three
across_z f z = record { v0 = (z ⊖ f.v1.z) ⊗ f.e12.y; v1 = (z ⊖ f.v2.z) ⊗ f.e20.y; v2 = (z ⊖ f.v0.z) ⊗ f.e01.y }

unfoldable pub across_y : Cast → Float → Three
across_y f y = record { v0 = (y ⊖ f.v1.y) ⊗ f.e12.z; v1 = (y ⊖ f.v2.y) ⊗ f.e20.z; v2 = (y ⊖ f.v0.y) ⊗ f.e01.z }

-- where the origin lies along x, seen from each corner
unfoldable pub along_x : Cast → Float → Three
along_x f x = record { v0 = x ⊖ f.v0.x; v1 = x ⊖ f.v1.x; v2 = x ⊖ f.v2.x }

unfoldable pub ray_of : Three → Three → Three → RayHit
ray_of zs ys xs =
    let w0 = zs.v0 ⊖ ys.v0 in
    let w1 = zs.v1 ⊖ ys.v1 in
    let w2 = zs.v2 ⊖ ys.v2 in
    reply w0 w1 w2 (reach w0 w1 w2 xs.v0 xs.v1 xs.v2)
