-- `geo_closest_branching::nearest`: each return by the tests that led there. Assumes nothing.
use mathlib.Core.Path.{◌≡◌}
use mathlib.Core.Bool.{false}
use Rattle.geo_closest.specs.declared.Dots.{Dots}
use Rattle.geo_closest.specs.Closest.{nearest, at_a, at_b, at_c, on_ab, on_ac}
use Rattle.geo_closest_branching.proofs.nearest.Goals as goal
use Rattle.geo_closest_branching.proofs.nearest.Goals.{Else-d6-d5, Else-vb-d2}

-- what is tested; it is at no corner; nor along the first two edges
abbrev dots : Else-d6-d5 → Dots
dots c = c.args.d

corners : (c : Else-d6-d5) → (at_a (dots c) ≡ false) × (at_b (dots c) ≡ false) × (at_c (dots c) ≡ false)
corners c = (c.if-d1-d2.false, c.if-d3-d4.false, c.if-d6-d5.false)

edges : (c : Else-vb-d2) → let d = dots (search) in (on_ab d ≡ false) × (on_ac d ≡ false)
edges c = (c.if-vc-d1.false, c.if-vb-d2.false)

pub returns-then-d1-d2 : goal.returns-then-d1-d2
unfolding nearest
returns-then-d1-d2 c = rw c.if-d1-d2.true

pub returns-then-d3-d4 : goal.returns-then-d3-d4
unfolding nearest
returns-then-d3-d4 c = rw (c.if-d1-d2.false, c.if-d3-d4.true)

pub returns-then-d6-d5 : goal.returns-then-d6-d5
unfolding nearest
returns-then-d6-d5 c = rw (c.if-d1-d2.false, c.if-d3-d4.false, c.if-d6-d5.true)

pub returns-then-vc-d1 : goal.returns-then-vc-d1
unfolding nearest
returns-then-vc-d1 c = let no = corners (search) in rw (no.0, no.1, no.2, c.if-vc-d1.true) c.step.ensures

pub returns-then-vb-d2 : goal.returns-then-vb-d2
unfolding nearest
returns-then-vb-d2 c = let no = corners (search) in rw (no.0, no.1, no.2, c.if-vc-d1.false, c.if-vb-d2.true) c.step-then-vb-d2.ensures

pub returns-then-va-d4 : goal.returns-then-va-d4
unfolding nearest
returns-then-va-d4 c = let no = corners (search) in
    let nor = edges (search) in
    rw (no.0, no.1, no.2, nor.0, nor.1, c.if-va-d4.true) c.step-then-va-d4.ensures

pub returns : goal.returns
unfolding nearest
returns c = let no = corners (search) in
    let nor = edges (search) in
    rw (no.0, no.1, no.2, nor.0, nor.1, c.if-va-d4.false) (rw c.step-2.ensures at c.step-3.ensures)
