-- The claim: every row of the table holds. It is computed. Assumes nothing.
use mathlib.Core.Path.{◌≡◌, refl}
use mathlib.Core.Bool.{true}
use Rattle.float.specs.Case.{all_hold}
use Rattle.marked_cases.specs.Marked.{marked}

pub all_hold_lem : all_hold marked ≡ true
unfolding marked
all_hold_lem = refl
