-- The floor's cases, computed. Assumes nothing.
use Rattle.std.proofs.Common.{◌≡◌, true, refl}
use Rattle.float.specs.Case.{all_hold}
use Rattle.float_floor.specs.FloorCases.{floor_cases}

pub floor_cases_lem : all_hold floor_cases ≡ true
unfolding floor_cases
floor_cases_lem = refl
