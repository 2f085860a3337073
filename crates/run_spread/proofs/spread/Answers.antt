-- `spread`: the loop's invariant is that what is left to spread comes to the whole. Assumes nothing.
use Prim.Native.Nat.{◌-◌, ◌<◌}
use native.Mathlib.Omega.{arith}
use mathlib.Core.Path.{refl, ◌∙◌}
use Rattle.run.specs.Steps as Steps
use Rattle.run_state.proofs.Loops.{Alike, alike_held}
use Rattle.run_spread.proofs.Spreads.{spread_begins, spread_ends, spread_spent, spread_on, spread_stops, counted}
use Rattle.run_spread.proofs.spread.Goals as goal
use Rattle.run_spread.proofs.spread.Goals.{Then-run-ne0}

alike_behind : (p : Then-run-ne0) →
    let a = p.args in
    Alike p.pop-run.new.field a.field.now p.pop-run.new.names p.pop-run.new.distances p.pop-run.new.cells p.pop-run.new.triangles
    a.names.now a.distances.now a.cells.now a.triangles.now
alike_behind p =
    alike_held (p.pop-run.auto.distances ∙ p.loop-run.invariant.0.long) p.pop-run.ensures.holds p.requires.holds

pub loop-run-init : goal.loop-run-init
loop-run-init c = (spread_begins c.requires.number_value.0 c.requires.number_value.1 c.requires.holds c.requires.fact, refl)

pub shape_of-field-then-run-terms : goal.shape_of-field-then-run-terms
shape_of-field-then-run-terms c =
    let alike_at : (let o = c.loop-run in
    let a = c.args in
    Alike o.field a.field.now o.names o.distances o.cells o.triangles a.names.now a.distances.now a.cells.now a.triangles.now) = alike_held c.loop-run.invariant.0.long c.loop-run.invariant.0.holds c.requires.holds in
    (alike_at).field_same

pub shape_of-names-then-run-terms : goal.shape_of-names-then-run-terms
shape_of-names-then-run-terms c =
    let alike_at : (let o = c.loop-run in
    let a = c.args in
    Alike o.field a.field.now o.names o.distances o.cells o.triangles a.names.now a.distances.now a.cells.now a.triangles.now) = alike_held c.loop-run.invariant.0.long c.loop-run.invariant.0.holds c.requires.holds in
    (alike_at).names_same

pub shape_of-distances-then-run-terms : goal.shape_of-distances-then-run-terms
shape_of-distances-then-run-terms c =
    let alike_at : (let o = c.loop-run in
    let a = c.args in
    Alike o.field a.field.now o.names o.distances o.cells o.triangles a.names.now a.distances.now a.cells.now a.triangles.now) = alike_held c.loop-run.invariant.0.long c.loop-run.invariant.0.holds c.requires.holds in
    (alike_at).distances_same

pub shape_of-cells-then-run-terms : goal.shape_of-cells-then-run-terms
shape_of-cells-then-run-terms c =
    let alike_at : (let o = c.loop-run in
    let a = c.args in
    Alike o.field a.field.now o.names o.distances o.cells o.triangles a.names.now a.distances.now a.cells.now a.triangles.now) = alike_held c.loop-run.invariant.0.long c.loop-run.invariant.0.holds c.requires.holds in
    (alike_at).cells_same

pub shape_of-triangles-then-run-terms : goal.shape_of-triangles-then-run-terms
shape_of-triangles-then-run-terms c =
    let alike_at : (let o = c.loop-run in
    let a = c.args in
    Alike o.field a.field.now o.names o.distances o.cells o.triangles a.names.now a.distances.now a.cells.now a.triangles.now) = alike_held c.loop-run.invariant.0.long c.loop-run.invariant.0.holds c.requires.holds in
    (alike_at).triangles_same

pub returns-then-run-terms : goal.returns-then-run-terms
returns-then-run-terms c =
    rw c.refused.ensures (spread_spent c.loop-run.invariant.0 c.loop-run-test.true c.if-run-terms.true)

pub pop-run-requires : goal.pop-run-requires
pop-run-requires c =
    let fewer : c.loop-run.run.pops < c.args.terms.limit = omega (arith, c.loop-run.invariant.0.within, c.if-run-terms.false) in
    record { fit = c.requires.fit; holds = c.loop-run.invariant.0.holds; fact = c.loop-run.invariant.0.states; steps_value = (c.loop-run.invariant.1, c.loop-run-test.true, omega (arith, fewer, c.struct_known-in-loop-run-2-1.given)) }

pub shape_of-field-then-run-ne0 : goal.shape_of-field-then-run-ne0
shape_of-field-then-run-ne0 c = (alike_behind c).field_same

pub shape_of-names-then-run-ne0 : goal.shape_of-names-then-run-ne0
shape_of-names-then-run-ne0 c = (alike_behind c).names_same

pub shape_of-distances-then-run-ne0 : goal.shape_of-distances-then-run-ne0
shape_of-distances-then-run-ne0 c = (alike_behind c).distances_same

pub shape_of-cells-then-run-ne0 : goal.shape_of-cells-then-run-ne0
shape_of-cells-then-run-ne0 c = (alike_behind c).cells_same

pub shape_of-triangles-then-run-ne0 : goal.shape_of-triangles-then-run-ne0
shape_of-triangles-then-run-ne0 c = (alike_behind c).triangles_same

pub returns-then-run-ne0 : goal.returns-then-run-ne0
returns-then-run-ne0 c =
    let fewer : c.loop-run.run.pops < c.args.terms.limit = omega (arith, c.loop-run.invariant.0.within, c.if-run-terms.false) in
    spread_stops c.loop-run.invariant.0 c.loop-run-test.true c.pop-run.ensures (fewer) c.if-run-ne0.true

pub loop-run-smaller : goal.loop-run-smaller
loop-run-smaller c =
    let fewer : c.loop-run.run.pops < c.args.terms.limit = omega (arith, c.loop-run.invariant.0.within, c.if-run-terms.false) in
    omega (arith, counted c.loop-run.invariant.0 c.loop-run-test.true c.pop-run.ensures c.if-run-ne0.false, fewer)

pub loop-run-preserved : goal.loop-run-preserved
loop-run-preserved c =
    let fewer : c.loop-run.run.pops < c.args.terms.limit = omega (arith, c.loop-run.invariant.0.within, c.if-run-terms.false) in
    let i = c.loop-run.invariant in
    let kept = c.pop-run.auto.distances in
    (spread_on i.0 c.loop-run-test.true c.pop-run.ensures c.requires.fit (fewer) kept c.if-run-ne0.false, i.1)

pub shape_of-field : goal.shape_of-field
shape_of-field c =
    let alike_at : (let o = c.loop-run in
    let a = c.args in
    Alike o.field a.field.now o.names o.distances o.cells o.triangles a.names.now a.distances.now a.cells.now a.triangles.now) = alike_held c.loop-run.invariant.0.long c.loop-run.invariant.0.holds c.requires.holds in
    (alike_at).field_same

pub shape_of-names : goal.shape_of-names
shape_of-names c =
    let alike_at : (let o = c.loop-run in
    let a = c.args in
    Alike o.field a.field.now o.names o.distances o.cells o.triangles a.names.now a.distances.now a.cells.now a.triangles.now) = alike_held c.loop-run.invariant.0.long c.loop-run.invariant.0.holds c.requires.holds in
    (alike_at).names_same

pub shape_of-distances : goal.shape_of-distances
shape_of-distances c =
    let alike_at : (let o = c.loop-run in
    let a = c.args in
    Alike o.field a.field.now o.names o.distances o.cells o.triangles a.names.now a.distances.now a.cells.now a.triangles.now) = alike_held c.loop-run.invariant.0.long c.loop-run.invariant.0.holds c.requires.holds in
    (alike_at).distances_same

pub shape_of-cells : goal.shape_of-cells
shape_of-cells c =
    let alike_at : (let o = c.loop-run in
    let a = c.args in
    Alike o.field a.field.now o.names o.distances o.cells o.triangles a.names.now a.distances.now a.cells.now a.triangles.now) = alike_held c.loop-run.invariant.0.long c.loop-run.invariant.0.holds c.requires.holds in
    (alike_at).cells_same

pub shape_of-triangles : goal.shape_of-triangles
shape_of-triangles c =
    let alike_at : (let o = c.loop-run in
    let a = c.args in
    Alike o.field a.field.now o.names o.distances o.cells o.triangles a.names.now a.distances.now a.cells.now a.triangles.now) = alike_held c.loop-run.invariant.0.long c.loop-run.invariant.0.holds c.requires.holds in
    (alike_at).triangles_same

pub returns : goal.returns
returns c = spread_ends c.loop-run.invariant.0 c.loop-run-test.false
