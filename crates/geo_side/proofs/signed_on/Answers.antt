-- `geo_side::signed_on`: the calls in turn, from the last. Assumes nothing.
use Rattle.geo_distance.specs.Distance.{squared_on}
use Rattle.geo_side.specs.Side.{above, signed_on}
use Rattle.geo_side.proofs.signed_on.Goals as goal

pub returns : goal.returns
unfolding signed_on above squared_on
returns c =
    rw (
      c.length.ensures,
      c.ahead.ensures,
      c.normal_of.ensures,
      c.sub-v.ensures,
      c.closest_on.ensures,
    ) at c.sided.ensures
