-- `listing::asked::rows_of` meets its contract: the layers are those of the grid that the head asks for. Assumes nothing.
use Rattle.listing.proofs.asked.rows_of.Goals as goal

pub returns : goal.returns
returns c =
    rw c.grid_of-grid.ensures at (rw c.layers-n.ensures at c.layers_of.ensures)
