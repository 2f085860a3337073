-- The closest point with no branch is that of the definition: by cases on the outcomes of the six tests. Assumes nothing.
use Rattle.std.specs.Prelude.{if◌then◌else◌}
use mathlib.Core.Path.{◌≡◌, refl, ◌∙◌}
use mathlib.Core.Bool.{Bool, true, false}
use lib.Ieee.{Float}
use Rattle.float.specs.Arith.{◌⊕◌, ◌⊖◌, ◌⊗◌, ◌⊘◌, f1}
use Rattle.point.specs.Point.{◌+ᵥ◌, ◌*ᵥ◌}
use Rattle.point.specs.declared.Point.{Point}
use Rattle.geo_closest.specs.declared.Facet.{Facet}
use Rattle.geo_closest.specs.declared.Dots.{Dots}
use Rattle.geo_closest_branchless.specs.declared.Regions.{Regions}
use Rattle.geo_closest.specs.Closest.{dots_of, nearest, va, vb, vc, at_a, at_b, at_c, on_ab, on_ac, on_bc}
use Rattle.geo_closest_branchless.specs.Flat.{regions_of, ratio, start, way, place}

module _ (d : Dots) (f : Facet) where
  -- the definition, by the tests' outcomes
  abbrev defined : (u v w x y z : Bool) → Point
  defined u v w x y z =
      if u then f.a
      else (if v then f.b
      else (if w then f.c
      else (if x then f.a +ᵥ f.ab *ᵥ (d.d1 ⊘ (d.d1 ⊖ d.d3))
      else (if y then f.a +ᵥ f.ac *ᵥ (d.d2 ⊘ (d.d2 ⊖ d.d6))
      else (if z then f.b +ᵥ f.bc *ᵥ ((d.d4 ⊖ d.d3) ⊘ ((d.d4 ⊖ d.d3) ⊕ (d.d5 ⊖ d.d6)))
      else (let denom = f1 ⊘ (va d ⊕ vb d ⊕ vc d) in f.a +ᵥ f.ab *ᵥ (vb d ⊗ denom) +ᵥ f.ac *ᵥ (vc d ⊗ denom)))))))

  abbrev outcomes : (u v w x y z : Bool) → Regions
  outcomes u v w x y z = record { a = u; b = v; c = w; ab = x; ac = y; bc = z }

  agree : (u v w x y z : Bool) → (let g = outcomes u v w x y z in place g f d (ratio g d) ≡ defined u v w x y z)
  unfolding ratio place start way
  agree true v w x y z = refl
  agree false true w x y z = refl
  agree false false true x y z = refl
  agree false false false true y z = refl
  agree false false false false true z = refl
  agree false false false false false true = refl
  agree false false false false false false = refl

  placed : place (regions_of d) f d (ratio (regions_of d) d) ≡ nearest d f
  unfolding nearest regions_of
  placed = agree (at_a d) (at_b d) (at_c d) (on_ab d) (on_ac d) (on_bc d)

-- the steps in turn: the dots of p, the regions, the ratio, the place
pub in_turn : (f : Facet) (p : Point) {d : Dots} {g : Regions} {q : Float} {r : Point} → d ≡ dots_of f p → g ≡ regions_of d → q ≡ ratio g d → r ≡ place g f d q → r ≡ nearest (dots_of f p) f
in_turn f p d-is g-is q-is r-is = (rw (q-is, g-is, d-is) at r-is) ∙ placed (dots_of f p) f
