-- `grids::counts`: the calls in turn, from the last. Assumes nothing.
use Rattle.replay_steps.proofs.grids.counts.Goals as goal

pub returns : goal.returns
returns c = rw (c.is_cell.ensures, c.is_word.ensures, c.sdf_grid_counts-r.ensures, c.grid.ensures)
