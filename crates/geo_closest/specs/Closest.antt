-- "Closest point: equal corners first (a=b=c: a; a=b: segment a,c; b=c or a=c: segment a,b), with -0 equal to +0; then the regions
-- a, b, c, ab, ac, bc, inside, with the source's formulas in its order. In the segment, a NaN parameter stays NaN under the clamp"
-- (document 01). Definitions only.
use Rattle.std.specs.Prelude.{Bool, ◌&&◌, ◌||◌, Float, if◌then◌else◌}
use Rattle.float.specs.Arith.{◌⊕◌, ◌⊖◌, ◌⊗◌, ◌⊘◌, ◌≦◌, f0, f1}
use Rattle.float.specs.Steps.{clamp_of}
use Rattle.point.specs.Point.{◌+ᵥ◌, ◌-ᵥ◌, ◌*ᵥ◌, ◌·◌, ◌≐ᵥ◌}
use Rattle.point.specs.declared.Point.{Point}
use Rattle.geo_closest.specs.declared.Facet.{Facet}
use Rattle.geo_closest.specs.declared.Dots.{Dots}

-- ---- the segment from a to b

-- the clamp keeps a NaN, which is neither below 0 nor above 1
unfoldable pub closest_point_segment : Point → Point → Point → Point
closest_point_segment p a b =
    let ab = b -ᵥ a in
    a +ᵥ ab *ᵥ clamp_of f0 f1 (ab · (p -ᵥ a) ⊘ ab · ab)

-- ---- a triangle with equal corners

abbrev pub two_equal : Point → Point → Point → Bool
two_equal a b c = (a ≐ᵥ b) || (b ≐ᵥ c) || (a ≐ᵥ c)

-- where two corners are equal: a itself, or the segment that is left
unfoldable pub closest_point_equal : Point → Point → Point → Point → Point
closest_point_equal p a b c =
    if (a ≐ᵥ b) && (b ≐ᵥ c) && (a ≐ᵥ c) then a
    else (if a ≐ᵥ b then closest_point_segment p a c
    else closest_point_segment p a b)

-- ---- the regions of a triangle

-- the corners, the edges, and whether two corners are equal: what does not depend on p
unfoldable pub facet_of : Point → Point → Point → Facet
facet_of a b c = record { a = a; b = b; c = c; ab = b -ᵥ a; ac = c -ᵥ a; bc = c -ᵥ b; equal = two_equal a b c }

-- where p lies along the edges ab and ac, seen from each corner
unfoldable pub dots_of : Facet → Point → Dots
dots_of f p =
    record {
      d1 = f.ab · (p -ᵥ f.a);
      d2 = f.ac · (p -ᵥ f.a);
      d3 = f.ab · (p -ᵥ f.b);
      d4 = f.ac · (p -ᵥ f.b);
      d5 = f.ab · (p -ᵥ f.c);
      d6 = f.ac · (p -ᵥ f.c);
    }

abbrev pub va : Dots → Float
va d = d.d3 ⊗ d.d6 ⊖ d.d5 ⊗ d.d4

abbrev pub vb : Dots → Float
vb d = d.d5 ⊗ d.d2 ⊖ d.d1 ⊗ d.d6

abbrev pub vc : Dots → Float
vc d = d.d1 ⊗ d.d4 ⊖ d.d3 ⊗ d.d2

abbrev pub at_a : Dots → Bool
at_a d = (d.d1 ≦ f0) && (d.d2 ≦ f0)

abbrev pub at_b : Dots → Bool
at_b d = (f0 ≦ d.d3) && (d.d4 ≦ d.d3)

abbrev pub at_c : Dots → Bool
at_c d = (f0 ≦ d.d6) && (d.d5 ≦ d.d6)

abbrev pub on_ab : Dots → Bool
on_ab d = (vc d ≦ f0) && (f0 ≦ d.d1) && (d.d3 ≦ f0)

abbrev pub on_ac : Dots → Bool
on_ac d = (vb d ≦ f0) && (f0 ≦ d.d2) && (d.d6 ≦ f0)

abbrev pub on_bc : Dots → Bool
on_bc d = (va d ≦ f0) && (f0 ≦ d.d4 ⊖ d.d3) && (f0 ≦ d.d5 ⊖ d.d6)

-- the first region whose test passes, and inside where none does
unfoldable pub nearest : Dots → Facet → Point
nearest d f =
    if at_a d then f.a
    else (if at_b d then f.b
    else (if at_c d then f.c
    else (if on_ab d then f.a +ᵥ f.ab *ᵥ (d.d1 ⊘ (d.d1 ⊖ d.d3))
    else (if on_ac d then f.a +ᵥ f.ac *ᵥ (d.d2 ⊘ (d.d2 ⊖ d.d6))
    else (if on_bc d then f.b +ᵥ f.bc *ᵥ ((d.d4 ⊖ d.d3) ⊘ ((d.d4 ⊖ d.d3) ⊕ (d.d5 ⊖ d.d6)))
    else (let denom = f1 ⊘ (va d ⊕ vb d ⊕ vc d) in f.a +ᵥ f.ab *ᵥ (vb d ⊗ denom) +ᵥ f.ac *ᵥ (vc d ⊗ denom)))))))

-- ---- the triangle a, b, c

unfoldable pub closest_on : Facet → Point → Point
closest_on f p = if f.equal then closest_point_equal p f.a f.b f.c else nearest (dots_of f p) f

abbrev pub closest_point_triangle : Point → Point → Point → Point → Point
closest_point_triangle p a b c = closest_on (facet_of a b c) p
