-- `grids::total`: the calls in turn, from the last. Assumes nothing.
use Rattle.replay_steps.proofs.grids.total.Goals as goal

pub returns : goal.returns
returns c = rw (c.is_word-2.ensures, c.is_word.ensures, c.sdf_grid_total-r.ensures, c.grid.ensures)
