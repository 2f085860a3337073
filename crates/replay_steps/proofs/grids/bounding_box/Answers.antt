-- `grids::bounding_box`: the calls in turn, from the last. Assumes nothing.
use Rattle.replay_steps.proofs.grids.bounding_box.Goals as goal

pub returns : goal.returns
returns c = rw (c.is_point-2.ensures, c.is_point.ensures, c.is_word.ensures, c.sdf_grid_box-r.ensures, c.grid.ensures)
