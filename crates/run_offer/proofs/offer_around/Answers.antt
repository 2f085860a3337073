-- `offer_around`: the loop's turns are the offers, one for each step. Assumes nothing.
use Prim.Native.Nat.{ℕ}
use native.Mathlib.Omega.{arith}
use mathlib.Core.Path.{◌≡◌, ◌∙◌}
use mathlib.Core.List.{List}
use lib.ListN.{length}
use lib.Ieee.{Float}
use Rattle.run_around.specs.Around.{Passable}
use Rattle.run_state.proofs.Loops.{begins, goes_on, stops, ends, Alike, alike}
use Rattle.run_offer.proofs.offer_around.Goals as goal
use Rattle.run_offer.proofs.offer_around.Goals.{After-loop-j, Then-reached-ne0}

-- a place that fits at the entry fits at each turn
passable : {to : ℕ} {field field₀ : List Float} {names names₀ : List ℕ} → length field ≡ length field₀ → length names ≡ length names₀
    → Passable to field₀ names₀ → Passable to field names
passable fl nl p = record { below = λ z. omega (arith, p.below z, fl); even = omega (arith, fl, nl, p.even) }

-- the lengths are those of the entry, at the loop's head and behind an offer
alike_at : (l : After-loop-j) →
    let o = l.loop-j in
    let a = l.args in
    Alike o.field a.field.now o.names o.distances o.cells o.triangles a.names.now a.distances.now a.cells.now a.triangles.now
alike_at l = let a = l.loop-j.invariant in alike a.field_long a.names_long a.long a.held l.requires.held

alike_behind : (o : Then-reached-ne0) →
    let a = o.args in
    Alike o.offer_to-reached.new.field a.field.now o.offer_to-reached.new.names o.offer_to-reached.new.distances o.offer_to-reached.new.cells o.offer_to-reached.new.triangles
    a.names.now a.distances.now a.cells.now a.triangles.now
alike_behind o =
    let a = o.loop-j.invariant in
    alike (o.offer_to-reached.auto.field ∙ a.field_long) (o.offer_to-reached.auto.names ∙ a.names_long) (o.offer_to-reached.auto.distances ∙ a.long) o.offer_to-reached.ensures.held o.requires.held

pub loop-j-init : goal.loop-j-init
loop-j-init c = begins _ c.requires.number_value.0 c.requires.held

pub bounds-to-j : goal.bounds-to-j
bounds-to-j c = omega (arith, c.requires.number_value.1.to_long)

pub bounds-squares-j : goal.bounds-squares-j
bounds-squares-j c = omega (arith, c.requires.number_value.1.squares_long)

pub offer_to-reached-requires : goal.offer_to-reached-requires
offer_to-reached-requires c =
    let l = c.loop-j in
    let a = l.invariant in record { held = a.held; number_value = (a.fine, passable a.field_long a.names_long (c.requires.number_value.1.each l.j c.loop-j-test.true)) }

pub shape_of-field-then-reached-ne0 : goal.shape_of-field-then-reached-ne0
shape_of-field-then-reached-ne0 c = (alike_behind c).field_same

pub shape_of-names-then-reached-ne0 : goal.shape_of-names-then-reached-ne0
shape_of-names-then-reached-ne0 c = (alike_behind c).names_same

pub shape_of-distances-then-reached-ne0 : goal.shape_of-distances-then-reached-ne0
shape_of-distances-then-reached-ne0 c = (alike_behind c).distances_same

pub shape_of-cells-then-reached-ne0 : goal.shape_of-cells-then-reached-ne0
shape_of-cells-then-reached-ne0 c = (alike_behind c).cells_same

pub shape_of-triangles-then-reached-ne0 : goal.shape_of-triangles-then-reached-ne0
shape_of-triangles-then-reached-ne0 c = (alike_behind c).triangles_same

pub returns-then-reached-ne0 : goal.returns-then-reached-ne0
returns-then-reached-ne0 c =
    stops _ c.loop-j.invariant c.offer_to-reached.ensures 27 c.if-reached-ne0.true c.loop-j-test.true

pub loop-j-preserved : goal.loop-j-preserved
loop-j-preserved c =
    goes_on _ c.loop-j.invariant c.offer_to-reached.ensures c.offer_to-reached.auto.field c.offer_to-reached.auto.names c.offer_to-reached.auto.distances c.if-reached-ne0.false

pub shape_of-field : goal.shape_of-field
shape_of-field c = (alike_at c).field_same

pub shape_of-names : goal.shape_of-names
shape_of-names c = (alike_at c).names_same

pub shape_of-distances : goal.shape_of-distances
shape_of-distances c = (alike_at c).distances_same

pub shape_of-cells : goal.shape_of-cells
shape_of-cells c = (alike_at c).cells_same

pub shape_of-triangles : goal.shape_of-triangles
shape_of-triangles c = (alike_at c).triangles_same

pub returns : goal.returns
returns c =
    ends _ 27 c.loop-j.invariant (omega arith)
