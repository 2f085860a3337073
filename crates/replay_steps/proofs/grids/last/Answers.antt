-- `grids::last`: the calls in turn, from the last. Assumes nothing.
use Rattle.replay_steps.proofs.grids.last.Goals as goal

pub returns : goal.returns
returns c = rw (c.is_point.ensures, c.is_word.ensures, c.sdf_grid_last-r.ensures, c.grid.ensures)
