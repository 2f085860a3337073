-- `grids::coordinates`: the calls in turn, from the last. Assumes nothing.
use Rattle.replay_steps.proofs.grids.coordinates.Goals as goal

pub returns : goal.returns
returns c = rw (c.is_cell.ensures, c.is_word.ensures, c.sdf_grid_coordinates-r.ensures, c.word.ensures, c.grid.ensures)
