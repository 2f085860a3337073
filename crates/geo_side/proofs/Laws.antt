-- What callers cite of the signed distance. The idea: to give a length a sign changes neither whether it is a NaN, nor that binary32 holds it, nor its
-- magnitude; and a length has no sign bit of its own (point's `dot_no_sign`, float's `root_no_sign`), so that its side can be read off. Assumes nothing.
use mathlib.Core.Path.{◌≡◌, refl, ap, ◌∙◌}
use mathlib.Core.Logic.{inl, inr}
use mathlib.Core.Bool.{Bool, true, false, not, true≢false}
use Prim.Native.Nat.{zero, suc}
use lib.Dec.{T}
use lib.Ieee.{Float, nan, inf, fin, binary32, fits, is_nan, neg}
use lib.Ieee.Fits.{add-fits}
use Rattle.float.specs.RootOf.{root_of}
use Rattle.float.specs.Steps.{abs_of, sign_bit}
use Rattle.float.proofs.Magnitude.{own_magnitude}
use Rattle.float.proofs.NoSign.{NoSign, root_no_sign}
use Rattle.float.proofs.Roots.{root_fits}
use Rattle.point.specs.Point.{◌-ᵥ◌}
use Rattle.point.specs.declared.Point.{Point}
use Rattle.point.proofs.Squares.{dot_no_sign}
use Rattle.geo_closest.specs.Closest.{closest_on}
use Rattle.geo_closest.specs.declared.Facet.{Facet}
use Rattle.geo_distance.specs.Distance.{squared_on, distance_on}
use Rattle.geo_side.specs.Side.{above, sided, signed_on, signed_squared_on}

-- ---- a value that is given a sign

sided_nan : (up : Bool) (x : Float) → is_nan (sided up x) ≡ is_nan x
unfolding is_nan neg
sided_nan true x = refl
sided_nan false nan = refl
sided_nan false (inf s) = refl
sided_nan false (fin s m e) = refl

sided_fits : (up : Bool) (x : Float) → T (fits binary32 x) → T (fits binary32 (sided up x))
unfolding fits neg
sided_fits true x f = f
sided_fits false nan f = tt
sided_fits false (inf s) f = tt
sided_fits false (fin s zero e) f = f
sided_fits false (fin s (suc m) e) f = f

sided_abs : (up : Bool) (x : Float) → abs_of (sided up x) ≡ abs_of x
unfolding abs_of neg
sided_abs true x = refl
sided_abs false nan = refl
sided_abs false (inf s) = refl
sided_abs false (fin s m e) = refl

-- one that had none, and is no NaN, shows the side
sided_sign : (up : Bool) (x : Float) → sign_bit x ≡ false → is_nan x ≡ false → sign_bit (sided up x) ≡ not up
unfolding is_nan neg
sided_sign true x h n = h
sided_sign false nan h n = absurd (true≢false n)
sided_sign false (inf s) h n = ap not h
sided_sign false (fin s m e) h n = ap not h

-- and its root has the same side
sided_root : (up : Bool) (x : Float) → sign_bit x ≡ false → sided (not (sign_bit (sided up x))) (root_of (abs_of (sided up x))) ≡ sided up (root_of x)
unfolding abs_of neg root_of
sided_root up (inf true) h = absurd (true≢false h)
sided_root up (fin true m e) h = absurd (true≢false h)
sided_root true nan h = refl
sided_root true (inf false) h = refl
sided_root true (fin false m e) h = refl
sided_root false nan h = refl
sided_root false (inf false) h = refl
sided_root false (fin false m e) h = refl

-- ---- a length has no sign bit

bare : (x : Float) → NoSign x → sign_bit x ≡ false
bare x (inl e) = ap sign_bit e
bare nan (inr u) = refl
bare (inf true) (inr u) = absurd u
bare (inf false) (inr u) = refl
bare (fin true m e) (inr u) = absurd u
bare (fin false m e) (inr u) = refl

module _ (f : Facet) (p : Point) where
  square_fits : T (fits binary32 (squared_on f p))
  unfolding squared_on
  square_fits = add-fits binary32 _ _

  square_no_sign : NoSign (squared_on f p)
  unfolding squared_on
  square_no_sign = dot_no_sign (p -ᵥ closest_on f p)

  pub square_bare : sign_bit (squared_on f p) ≡ false
  square_bare = bare (squared_on f p) square_no_sign

  pub distance_bare : sign_bit (distance_on f p) ≡ false
  distance_bare = bare (distance_on f p) (root_no_sign (squared_on f p) square_fits square_no_sign)

  pub distance_fits : T (fits binary32 (distance_on f p))
  distance_fits = root_fits (squared_on f p) square_fits

  -- ---- the signed distance

  pub signed_nan : is_nan (signed_on f p) ≡ is_nan (distance_on f p)
  unfolding signed_on
  signed_nan = sided_nan (above f p) (distance_on f p)

  pub signed_fits : T (fits binary32 (signed_on f p))
  unfolding signed_on
  signed_fits = sided_fits (above f p) (distance_on f p) distance_fits

  pub signed_magnitude : abs_of (signed_on f p) ≡ distance_on f p
  unfolding signed_on
  signed_magnitude = sided_abs (above f p) (distance_on f p) ∙ own_magnitude (distance_on f p) distance_bare

  pub signed_side : is_nan (distance_on f p) ≡ false → sign_bit (signed_on f p) ≡ not (above f p)
  unfolding signed_on
  signed_side = sided_sign (above f p) (distance_on f p) distance_bare

  -- ---- and its square

  pub signed_square_nan : is_nan (signed_squared_on f p) ≡ is_nan (squared_on f p)
  unfolding signed_squared_on
  signed_square_nan = sided_nan (above f p) (squared_on f p)

  pub signed_square_fits : T (fits binary32 (signed_squared_on f p))
  unfolding signed_squared_on
  signed_square_fits = sided_fits (above f p) (squared_on f p) square_fits

  pub signed_square_magnitude : abs_of (signed_squared_on f p) ≡ squared_on f p
  unfolding signed_squared_on
  signed_square_magnitude = sided_abs (above f p) (squared_on f p) ∙ own_magnitude (squared_on f p) square_bare

  pub signed_square_side : is_nan (squared_on f p) ≡ false → sign_bit (signed_squared_on f p) ≡ not (above f p)
  unfolding signed_squared_on
  signed_square_side = sided_sign (above f p) (squared_on f p) square_bare

  -- the signed distance is the root of its square's magnitude, with the sign of its square
  pub signed_root_lem : sided (not (sign_bit (signed_squared_on f p))) (root_of (abs_of (signed_squared_on f p))) ≡ signed_on f p
  unfolding signed_squared_on signed_on
  signed_root_lem = sided_root (above f p) (squared_on f p) square_bare
