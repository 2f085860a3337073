-- `tidy_search::turn`: as it stands. Assumes nothing.
use mathlib.Core.Path.{refl}
use Rattle.tidy_search.specs.Links.{turned_key}
use Rattle.tidy_search.proofs.turn.Goals as goal

pub returns : goal.returns
unfolding turned_key
returns c = refl
