-- `grid::parts::stride_on`: each arm by the axis that led there; the product of two counts fits. Assumes nothing.
use Rattle.grid_index.proofs.Fits.{counts_fit}
use Rattle.grid.proofs.Facts.{bounds_of}
use Rattle.grid.proofs.parts.stride_on.Goals as goal

pub overflow_mul-result : goal.overflow_mul-result
overflow_mul-result c =
    let g = c.args.grid in
    let b = bounds_of g c.requires in
    record { fits = (counts_fit g.count_y g.count_z g.count_z b.on_y.few b.on_z.few b.on_z.few).0 }
