-- `run_field::run_field`: seeding ends it, or the rest goes on from what was seeded. Assumes nothing.
use native.Mathlib.Omega.{arith}
use mathlib.Core.Path.{refl}
use lib.ListN.{length}
use Rattle.run_seed_cells.proofs.Told.{never_none}
use Rattle.run_field.proofs.Runs.{fresh_field, fresh_names, seeding_stops, seeding_holds, seeding_states, seeding_goes_on}
use Rattle.run_field.proofs.run_field.Goals as goal

pub seed-requires : goal.seed-requires
seed-requires c = record { grid_value = c.requires.fit.ready.bounded; field_len = (fresh_field c.requires.fresh, fresh_names c.requires.fresh); sound = c.requires.fit.ready.sound; indices_len_bound = omega (arith, c.requires.fit.few) }

pub returns-in-Err : goal.returns-in-Err
returns-in-Err c =
    rw c.number.ensures (seeding_stops c.args.terms.sign c.requires.fit c.requires.fresh c.seed.new.field c.seed.new.names _ c.in-Err.ensures (length c.args.distances.now) c.args.terms.limit
    c.seed.auto.field c.seed.auto.names (never_none _))

pub spread_seeds-requires : goal.spread_seeds-requires
spread_seeds-requires c =
    let a = c.args in record { fit = c.requires.fit; holds = seeding_holds a.terms.sign c.requires.fit c.requires.fresh c.seed.new.field c.seed.new.names _ c.in-Ok.ensures refl; fact = seeding_states a.terms.sign c.requires.fit c.requires.fresh c.seed.new.field c.seed.new.names _ c.in-Ok.ensures refl }

pub returns-in-Ok : goal.returns-in-Ok
returns-in-Ok c =
    seeding_goes_on c.args.terms.sign c.requires.fit c.requires.fresh c.seed.new.field c.seed.new.names _ c.in-Ok.ensures refl
    (length c.args.distances.now) c.args.terms.limit c.spread_seeds.ensures
