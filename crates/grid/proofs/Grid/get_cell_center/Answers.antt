-- `Grid::get_cell_center`: a cell within the counts of a grid within its bounds is below 2^16. Assumes nothing.
use native.Mathlib.Omega.{arith}
use Rattle.grid.proofs.Facts.{bounds_of, inside_of}
use Rattle.grid.proofs.Grid.get_cell_center.Goals as goal

pub get_cell_center-requires : goal.get_cell_center-requires
get_cell_center-requires c =
    let has = c.in_ok-cell_or_refused.ensures.ok in
    let b = bounds_of c.args.self has.1 in
    let w = inside_of c.args.self c.args.cell has.2 in
    rw has.0 (omega arith, omega arith, omega arith)
