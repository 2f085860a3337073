-- `geo_closest_branchless::way`: one pick in another. Assumes nothing.
use Rattle.geo_closest_branchless.specs.Flat.{way}
use Rattle.geo_closest_branchless.proofs.way.Goals as goal

pub returns : goal.returns
unfolding way
returns c = rw c.pick_point.ensures at c.pick_point-2.ensures
