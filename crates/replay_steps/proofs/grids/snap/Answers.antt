-- `grids::snap`: the calls in turn, from the last. Assumes nothing.
use Rattle.replay_steps.proofs.grids.snap.Goals as goal

pub returns : goal.returns
returns c = rw (c.is_cell.ensures, c.is_word-2.ensures, c.is_word.ensures, c.sdf_grid_snap-r.ensures, c.point.ensures, c.grid.ensures)
