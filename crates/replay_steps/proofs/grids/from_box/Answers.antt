-- `grids::from_box`: the calls in turn, from the last. Assumes nothing.
use Rattle.replay_steps.proofs.grids.from_box.Goals as goal

pub returns : goal.returns
returns c = rw (c.is_word-2.ensures, c.is_cell.ensures, c.is_point-2.ensures, c.is_point.ensures, c.is_word.ensures, c.sdf_grid_from_bounding_box-r.ensures, c.cell.ensures, c.point-high.ensures, c.point-low.ensures)
