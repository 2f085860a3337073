-- `run_seed::seed_plane`: the loop along y (`crates/run_seed_line/proofs/Along.antt`). Assumes nothing.
use mathlib.Core.Path.{refl, ◌∙◌}
use native.Mathlib.Omega.{arith}
use Rattle.std.proofs.lemmas.Result.{err_from_is_err_and}
use Rattle.run_seed_cells.proofs.Told.{never_none}
use Rattle.run_seed_cells.specs.Parts.{along_plane}
use Rattle.run_seed_line.proofs.Along.{starts, turn_goes_on, turn_stops, ends}
use Rattle.run_seed.proofs.seed_plane.Goals as goal

pub loop-y-init : goal.loop-y-init
unfolding along_plane
loop-y-init c = starts

pub seed_line-requires : goal.seed_line-requires
seed_line-requires c =
    let inside = c.requires.grid_value.1 in record { grid_value = (c.requires.grid_value.0, record { x_below = c.requires.grid_value.2; y_below = omega (arith, inside.y_below); z_below = inside.z_below }); field_len = (c.loop-y.invariant.field_long ∙ c.requires.field_len.0, c.loop-y.invariant.names_long ∙ c.requires.field_len.1) }

pub returns-in_err-seed_line : goal.returns-in_err-seed_line
unfolding along_plane
returns-in_err-seed_line c =
    let p = err_from_is_err_and c.from_residual.result c.from_residual.ensures.1 in
    rw (p.1, p.2) (turn_stops c.loop-y.invariant _ _ _ (omega arith) c.in_err-seed_line.ensures (never_none _))

pub loop-y-preserved : goal.loop-y-preserved
loop-y-preserved c =
    turn_goes_on c.loop-y.invariant _ _ _ (omega arith) c.in_ok-seed_line.ensures refl (omega arith) (omega arith)

-- the last turn was made
pub returns-in_ok-seed_line : goal.returns-in_ok-seed_line
unfolding along_plane
returns-in_ok-seed_line c =
    ends (turn_goes_on c.loop-y.invariant _ _ _ (omega arith) c.in_ok-seed_line.ensures refl (omega arith) (omega arith)) (omega arith)

-- there was none to make
pub returns : goal.returns
unfolding along_plane
returns c = ends c.loop-y.invariant (omega arith)
