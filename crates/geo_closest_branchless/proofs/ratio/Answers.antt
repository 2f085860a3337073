-- `geo_closest_branchless::ratio`: the quotient of the two picks. Assumes nothing.
use Rattle.geo_closest_branchless.specs.Flat.{ratio}
use Rattle.geo_closest_branchless.proofs.ratio.Goals as goal

pub returns : goal.returns
unfolding ratio
returns c = rw (c.first.ensures, c.first-2.ensures)
