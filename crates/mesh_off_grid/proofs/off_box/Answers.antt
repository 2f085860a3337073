-- `mesh_off_grid::off_box`: the test of each axis is the definition's. Assumes nothing.
use Rattle.mesh_off_grid.specs.OffGrid.{off_box}
use Rattle.mesh_off_grid.proofs.off_box.Goals as goal

pub returns : goal.returns
unfolding off_box
returns c = rw (c.beyond-x.ensures, c.beyond-y.ensures, c.beyond-z.ensures)
