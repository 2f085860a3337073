-- `grids::index`: the calls in turn, from the last. Assumes nothing.
use Rattle.replay_steps.proofs.grids.index.Goals as goal

pub returns : goal.returns
returns c = rw (c.is_word-2.ensures, c.is_word.ensures, c.sdf_grid_index-r.ensures, c.cell.ensures, c.grid.ensures)
