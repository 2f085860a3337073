-- A measure is the signed root of its square, and a value of binary32, whichever the method; with Raycast it has no sign bit. Assumes nothing.
use mathlib.Core.Path.{◌≡◌, refl, ◌∙◌}
use mathlib.Core.Bool.{Bool, true, false, not, cond}
use lib.Dec.{T}
use lib.Ieee.{Float, binary32, fits, neg}
use Rattle.float.specs.RootOf.{root_of}
use Rattle.float.specs.Steps.{abs_of, sign_bit}
use Rattle.float_shortcut.specs.Shown.{signed_root}
use Rattle.float_shortcut.proofs.Signed.{unsigned_root}
use Rattle.terms.specs.declared.SignMethod.{SignMethod}
use Rattle.terms.specs.declared.SignMethod.TheVariants.{Raycast, Normal}
use Rattle.point.specs.declared.Point.{Point}
use Rattle.geo_closest.specs.declared.Facet.{Facet}
use Rattle.geo_side.specs.Side.{sided, signed_squared_on}
use Rattle.geo_side.proofs.Laws.{square_bare, signed_root_lem, distance_fits, signed_fits}
use Rattle.geo_measure.specs.Measured.{measured, squared_by}

-- the two ways to say by which sign
turned : (s : Bool) (x : Float) → cond s (neg x) x ≡ sided (not s) x
turned true x = refl
turned false x = refl

pub measured_root : (sign : SignMethod) (f : Facet) (p : Point) → signed_root (squared_by sign f p) ≡ measured sign f p
unfolding signed_root
measured_root Raycast f p = unsigned_root _ (square_bare f p)
measured_root Normal f p = let q = signed_squared_on f p in turned (sign_bit q) (root_of (abs_of q)) ∙ signed_root_lem f p

pub measured_fits : (sign : SignMethod) (f : Facet) (p : Point) → T (fits binary32 (measured sign f p))
measured_fits Raycast f p = distance_fits f p
measured_fits Normal f p = signed_fits f p
