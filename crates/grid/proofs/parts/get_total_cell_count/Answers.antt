-- `parts::get_total_cell_count`: the counts of a grid within the bounds are few. Assumes nothing.
use Rattle.grid.proofs.Facts.{counts_few}
use Rattle.grid.proofs.parts.get_total_cell_count.Goals as goal

pub total-requires : goal.total-requires
total-requires c = counts_few c.args.grid c.requires
