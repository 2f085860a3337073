-- `geo_distance::squared_on`: the square from the closest point. Assumes nothing.
use Rattle.geo_distance.specs.Distance.{squared_on}
use Rattle.geo_distance.proofs.squared_on.Goals as goal

pub returns : goal.returns
unfolding squared_on
returns c = rw c.closest_on.ensures at c.square.ensures
