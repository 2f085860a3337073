-- `listing::asked::point_of` meets its contract. Assumes nothing.
use Rattle.point.specs.Point.{vec}
use Rattle.listing.proofs.asked.point_of.Goals as goal

pub returns : goal.returns
returns c = λ i. vec (c.float_of-x.ensures i) (c.float_of-y.ensures i) (c.float_of-z.ensures i)
