-- `run_seed::seed_box`: the loop along x (`crates/run_seed_line/proofs/Along.antt`). Assumes nothing.
use mathlib.Core.Path.{refl, ◌∙◌}
use native.Mathlib.Omega.{arith}
use Rattle.std.proofs.lemmas.Result.{err_from_is_err_and}
use Rattle.run_seed_cells.proofs.Told.{never_none}
use Rattle.run_seed_cells.specs.Parts.{along_box}
use Rattle.run_seed_line.proofs.Along.{starts, turn_goes_on, turn_stops, ends}
use Rattle.run_seed.proofs.seed_box.Goals as goal

pub loop-x-init : goal.loop-x-init
unfolding along_box
loop-x-init c = starts

pub seed_plane-requires : goal.seed_plane-requires
seed_plane-requires c =
    let inside = c.requires.grid_value.1 in record { grid_value = (c.requires.grid_value.0, inside, omega (arith, inside.x_below)); field_len = (c.loop-x.invariant.field_long ∙ c.requires.field_len.0, c.loop-x.invariant.names_long ∙ c.requires.field_len.1) }

pub returns-in_err-seed_plane : goal.returns-in_err-seed_plane
unfolding along_box
returns-in_err-seed_plane c =
    let p = err_from_is_err_and c.from_residual.result c.from_residual.ensures.1 in
    rw (p.1, p.2) (turn_stops c.loop-x.invariant _ _ _ (omega arith) c.in_err-seed_plane.ensures (never_none _))

pub loop-x-preserved : goal.loop-x-preserved
loop-x-preserved c =
    turn_goes_on c.loop-x.invariant _ _ _ (omega arith) c.in_ok-seed_plane.ensures refl (omega arith) (omega arith)

-- the last turn was made
pub returns-in_ok-seed_plane : goal.returns-in_ok-seed_plane
unfolding along_box
returns-in_ok-seed_plane c =
    ends (turn_goes_on c.loop-x.invariant _ _ _ (omega arith) c.in_ok-seed_plane.ensures refl (omega arith) (omega arith)) (omega arith)

-- there was none to make
pub returns : goal.returns
unfolding along_box
returns c = ends c.loop-x.invariant (omega arith)
