-- The steps of the closest point with no branch: one division and one chain of sums serve every region. `nearest` of Closest.antt
-- is what they add up to. Definitions only.
use Rattle.std.specs.Prelude.{Bool, cond, not, ◌&&◌, ◌||◌, Float}
use Rattle.float.specs.Arith.{◌⊕◌, ◌⊖◌, ◌⊗◌, ◌⊘◌, f1}
use Rattle.point.specs.Point.{◌+ᵥ◌, ◌*ᵥ◌}
use Rattle.point.specs.declared.Point.{Point}
use Rattle.geo_closest.specs.Closest.{va, vb, vc, at_a, at_b, at_c, on_ab, on_ac, on_bc}
use Rattle.geo_closest.specs.declared.Facet.{Facet}
use Rattle.geo_closest.specs.declared.Dots.{Dots}
use Rattle.geo_closest_branchless.specs.declared.Regions.{Regions}

abbrev pub pick_first : {A : Type 0} → Bool → Bool → Bool → A → A → A → A → A
pick_first x y z a b c e = cond x a (cond y b (cond z c e))

unfoldable pub regions_of : Dots → Regions
regions_of d = record { a = at_a d; b = at_b d; c = at_c d; ab = on_ab d; ac = on_ac d; bc = on_bc d }

-- the edge's parameter, or the inside's `denom`
unfoldable pub ratio : Regions → Dots → Float
ratio g d =
    pick_first g.ab g.ac g.bc d.d1 d.d2 (d.d4 ⊖ d.d3) f1
    ⊘ pick_first g.ab g.ac g.bc (d.d1 ⊖ d.d3) (d.d2 ⊖ d.d6) ((d.d4 ⊖ d.d3) ⊕ (d.d5 ⊖ d.d6)) (va d ⊕ vb d ⊕ vc d)

-- the corner that the region is, or from which its edge starts
unfoldable pub start : Regions → Facet → Point
start g f =
    cond (not g.a && (g.b || (not g.c && not g.ab && not g.ac && g.bc))) f.b
    (cond (not g.a && not g.b && g.c) f.c f.a)

-- the first edge to go along
unfoldable pub way : Regions → Facet → Point
way g f = cond (not g.ab && g.ac) f.ac (cond (not g.ab && not g.ac && g.bc) f.bc f.ab)

-- from the start along the first edge, and inside along ac too
unfoldable pub place : Regions → Facet → Dots → Float → Point
place g f d q =
    let edge = g.ab || g.ac || g.bc in
    let s = start g f +ᵥ way g f *ᵥ cond edge q (vb d ⊗ q) in
    cond (g.a || g.b || g.c) (start g f) (cond edge s (s +ᵥ f.ac *ᵥ (vc d ⊗ q)))
