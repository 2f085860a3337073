-- `parts::get_cell_idx`: the index of a cell within the counts is below 1,048,576 (`index_fits`). Assumes nothing.
use Rattle.grid.specs.Index.{index}
use Rattle.grid.proofs.Facts.{index_fits}
use Rattle.grid.proofs.parts.get_cell_idx.Goals as goal

pub index-requires : goal.index-requires
unfolding index
index-requires c = index_fits c.args.grid c.args.cell c.requires.0 c.requires.1

pub returns : goal.returns
unfolding index
returns c = c.index.ensures
