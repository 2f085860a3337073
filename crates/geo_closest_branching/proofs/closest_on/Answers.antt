-- `geo_closest_branching::closest_on`: each return by the test that led there. Assumes nothing.
use Rattle.geo_closest.specs.Closest.{closest_on}
use Rattle.geo_closest.proofs.Picks.{picked, passed}
use Rattle.geo_closest_branching.proofs.closest_on.Goals as goal

pub returns-then-equal : goal.returns-then-equal
unfolding closest_on
returns-then-equal c = picked _ c.if-equal.true c.closest_point_equal.ensures

pub returns : goal.returns
unfolding closest_on
returns c = passed _ c.if-equal.false (rw c.dots_of.ensures at c.nearest.ensures)
