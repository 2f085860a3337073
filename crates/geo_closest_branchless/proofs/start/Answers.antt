-- `geo_closest_branchless::start`: one pick in another. Assumes nothing.
use Rattle.geo_closest_branchless.specs.Flat.{start}
use Rattle.geo_closest_branchless.proofs.start.Goals as goal

pub returns : goal.returns
unfolding start
returns c = rw c.pick_point.ensures at c.pick_point-2.ensures
