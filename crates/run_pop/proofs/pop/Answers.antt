-- `run_pop::pop`: the entry that is taken is known, what is left still holds, and the offers are those of `spread_around`. Assumes nothing.
use native.Mathlib.Omega.{arith}
use mathlib.Core.Path.{refl, ◌∙◌}
use Rattle.run.specs.Input.{run_input}
use Rattle.run_around.proofs.Places.{places_fit, all_steps}
use Rattle.run_state.proofs.Loops.{Alike, alike}
use Rattle.run_pop.proofs.Pops.{first_known, rest_held, popped}
use Rattle.run_pop.proofs.pop.Goals as goal
use Rattle.run_pop.proofs.pop.Goals.{After-slice_known-13-1}

-- the slices keep their lengths
kept : (c : After-slice_known-13-1) →
    let a = c.args in
    Alike c.offer_around.new.field a.field.now c.offer_around.new.names c.offer_around.new.distances c.offer_around.new.cells c.offer_around.new.triangles
    a.names.now a.distances.now a.cells.now a.triangles.now
kept c =
    alike c.offer_around.auto.field c.offer_around.auto.names (c.offer_around.auto.distances ∙ c.take-e.auto.distances) c.offer_around.ensures.held c.requires.holds.held

pub take-e-requires : goal.take-e-requires
take-e-requires c = record { held = c.requires.holds.held; n_nonzero = c.requires.steps_value.1; fact = (c.requires.fact.good 0).apart }

pub look_around-requires : goal.look_around-requires
look_around-requires c = record { ready = c.requires.fit.ready; known = first_known c.args.at c.requires.fact c.take-e.ensures; steps_value = (c.requires.steps_value.0, refl, refl) }

pub overflow_sub-left : goal.overflow_sub-left
overflow_sub-left c = omega (arith, c.requires.steps_value.1)

pub overflow_add-pops : goal.overflow_add-pops
overflow_add-pops c = omega (arith, c.requires.steps_value.2)

pub offer_around-requires : goal.offer_around-requires
offer_around-requires c =
    let h = c.requires.holds in record { held = rest_held c.args.at c.requires.fact c.take-e.ensures; number_value = (refl, places_fit c.look_around.ensures h.field_long h.names_long) }

pub shape_of-field : goal.shape_of-field
shape_of-field c = (kept c).field_same

pub shape_of-names : goal.shape_of-names
shape_of-names c = (kept c).names_same

pub shape_of-distances : goal.shape_of-distances
shape_of-distances c = (kept c).distances_same

pub shape_of-cells : goal.shape_of-cells
shape_of-cells c = (kept c).cells_same

pub shape_of-triangles : goal.shape_of-triangles
shape_of-triangles c = (kept c).triangles_same

pub returns : goal.returns
unfolding run_input
returns c =
    let h = c.requires.holds in
    popped c.args.at c.requires.fact c.take-e.ensures c.requires.fit c.take-e.auto.distances
    (record { field_long = (kept c).field_same ∙ h.field_long; names_long = (kept c).names_same ∙ h.names_long; held = c.offer_around.ensures.held })
    (λ any. all_steps c.look_around.ensures _ any _ ∙ c.offer_around.ensures.is _ refl refl)
