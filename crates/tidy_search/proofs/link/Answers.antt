-- `tidy_search::link`: as it stands. Assumes nothing.
use native.Mathlib.Omega.{arith}
use mathlib.Core.Path.{refl}
use Rattle.tidy_search.specs.Links.{link_of}
use Rattle.tidy_search.proofs.link.Goals as goal

pub returns : goal.returns
unfolding link_of
returns c = (refl, omega arith)
