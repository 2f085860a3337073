-- The dot of a vector with itself has no sign bit, since no square has one and no sum of such values. Assumes nothing.
use mathlib.Core.Bool.{not}
use lib.Dec.{T}
use lib.Ieee.{binary32, is_nan}
use lib.Ieee.Fits.{add-fits}
use Rattle.float.specs.Arith.{◌⊕◌, ◌⊗◌}
use Rattle.float.specs.Distance.{Distance}
use Rattle.float.proofs.NoSign.{NoSign, square_no_sign, plus_no_sign, no_sign_distance}
use Rattle.point.specs.Point.{◌·◌}
use Rattle.point.specs.declared.Point.{Point}

pub dot_no_sign : (v : Point) → NoSign (v · v)
dot_no_sign v =
    plus_no_sign (v.x ⊗ v.x ⊕ v.y ⊗ v.y) (v.z ⊗ v.z)
    (plus_no_sign (v.x ⊗ v.x) (v.y ⊗ v.y) (square_no_sign v.x) (square_no_sign v.y))
    (square_no_sign v.z)

-- so where it is no NaN it is a distance
pub dot_self : (v : Point) → T (not (is_nan (v · v))) → Distance (v · v)
dot_self v h =
    no_sign_distance (v · v) (add-fits binary32 (v.x ⊗ v.x ⊕ v.y ⊗ v.y) (v.z ⊗ v.z)) (dot_no_sign v) h
