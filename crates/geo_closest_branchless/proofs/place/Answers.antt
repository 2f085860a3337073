-- `geo_closest_branchless::place`: the calls in turn, from the last. Assumes nothing.
use Rattle.geo_closest_branchless.specs.Flat.{place}
use Rattle.geo_closest_branchless.proofs.place.Goals as goal

pub returns : goal.returns
unfolding place
returns c =
    rw (
      c.pick_point-i.ensures,
      c.step.ensures,
      c.step-s.ensures,
      c.pick.ensures,
      c.way.ensures,
      c.start-o.ensures,
    ) at c.pick_point.ensures
