-- Every row of the table holds. It is computed. Assumes nothing.
use mathlib.Core.Path.{◌≡◌, refl}
use mathlib.Core.Bool.{true}
use lib.Ieee.{lt, eq}
use Rattle.float.specs.Case.{all_hold}
use Rattle.float.specs.Steps.{abs_of}
use Rattle.row_meaning.specs.CountedCases.{counted_cases}

pub counted_cases_lem : all_hold counted_cases ≡ true
unfolding counted_cases abs_of lt eq
counted_cases_lem = refl
