-- `grids::centre`: the calls in turn, from the last. Assumes nothing.
use Rattle.replay_steps.proofs.grids.centre.Goals as goal

pub returns : goal.returns
returns c = rw (c.is_point.ensures, c.is_word.ensures, c.sdf_grid_centre-r.ensures, c.cell.ensures, c.grid.ensures)
