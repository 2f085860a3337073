-- `parts::get_cell_integer_coordinates`: the counts are above 0 and their products fit. Assumes nothing.
use Rattle.grid.specs.Index.{coordinates}
use Rattle.grid.proofs.Facts.{Bounds, bounds_of, across_fits}
use Rattle.grid.proofs.parts.get_cell_integer_coordinates.Goals as goal
use Rattle.grid.proofs.parts.get_cell_integer_coordinates.Goals.{After-x_of}

bound : (c : After-x_of) → Bounds c.args.grid
bound c = bounds_of c.args.grid c.requires

pub x_of-requires : goal.x_of-requires
unfolding coordinates
x_of-requires c = across_fits c.args.grid c.requires

pub y_of-requires : goal.y_of-requires
unfolding coordinates
y_of-requires c = let b = bound c in (b.on_y.some, b.on_z.some)

pub z_of-requires : goal.z_of-requires
unfolding coordinates
z_of-requires c = (bound (search)).on_z.some

pub returns : goal.returns
unfolding coordinates
returns c = rw (c.x_of.ensures, c.y_of.ensures, c.z_of.ensures)
