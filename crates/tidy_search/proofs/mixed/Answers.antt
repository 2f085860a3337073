-- `tidy_search::mixed`: as it stands; what is left by 2 ^ 32 is below it. Assumes nothing.
use native.Mathlib.Omega.{arith}
use mathlib.Core.Path.{refl}
use Rattle.tidy_search.specs.Links.{mixed_of}
use Rattle.tidy_search.proofs.mixed.Goals as goal

pub returns : goal.returns
unfolding mixed_of
returns c = (refl, omega arith)
