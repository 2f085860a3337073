-- `listing::asked::grid_of` meets its contract. Assumes nothing.
use Rattle.listing.proofs.asked.grid_of.Goals as goal

pub returns : goal.returns
returns c =
    let n = c.args.head.count in
    λ i.
    record {
      first_cell = c.point_of-first_cell.ensures i;
      cell_size = c.point_of-cell_size.ensures i;
      count_x = n.x;
      count_y = n.y;
      count_z = n.z;
      upright = c.upright_of-upright.ensures i;
    }
