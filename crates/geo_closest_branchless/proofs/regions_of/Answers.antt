-- `geo_closest_branchless::regions_of`: the six tests of the definition, as they stand. Assumes nothing.
use mathlib.Core.Path.{refl}
use Rattle.geo_closest_branchless.specs.Flat.{regions_of}
use Rattle.geo_closest_branchless.proofs.regions_of.Goals as goal

pub returns : goal.returns
unfolding regions_of
returns c = refl
