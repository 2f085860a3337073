-- `Grid::index_or_refused`: the index is asked for only where the grid is within its bounds, and then the counts are few. Assumes nothing.
use Rattle.grid.proofs.Facts.{counts_few}
use Rattle.grid.proofs.Grid.index_or_refused.Goals as goal

pub is_index-requires : goal.is_index-requires
is_index-requires c = counts_few c.args.self c.in_ok-in_bounds_or_refused.ensures
