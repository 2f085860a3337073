-- Squared distances for many points, by themselves and with the sign of the side: each is that of the one point (`geo_distance`, Distance;
-- `geo_side`, Side). Definitions only.
use Rattle.std.specs.Prelude.{◌≡◌, List, ℕ, ◌<◌, length, get_or, Float}
use Rattle.std.specs.Float.{nan}
use Rattle.point.specs.Point.{vec, ◌-ᵥ◌, ◌·◌}
use Rattle.point.specs.declared.Point.{Point}
use Rattle.geo_closest.specs.declared.Facet.{Facet}
use Rattle.geo_distance.specs.Distance.{squared_on}
use Rattle.geo_side.specs.Side.{signed_squared_on, signed_square_to}

-- the point i of a row of points, whose coordinates stand in xs, ys and zs
abbrev pub point_at : List Float → List Float → List Float → ℕ → Point
point_at xs ys zs i = vec (get_or xs i nan) (get_or ys i nan) (get_or zs i nan)

-- as many y and z as x, and room in `out` for a value of each point
abbrev pub Alongside : List Float → List Float → List Float → List Float → Type 0
Alongside xs ys zs out = (length ys ≡ length xs) × (length zs ≡ length xs) × (length out ≡ length xs)

-- `out` holds what `value` gives for each
pub record Values (value : Point → Float) (xs ys zs out : List Float) : Type 0 where
  pub long : length out ≡ length xs
  pub each : (i : ℕ) → i < length xs → get_or out i nan ≡ value (point_at xs ys zs i)

-- `out` holds for each what a call of `gives` may give
pub record GivenBy (gives : Point → Float → Type 0) (xs ys zs out : List Float) : Type 0 where
  pub long : length out ≡ length xs
  pub each : (i : ℕ) → i < length xs → gives (point_at xs ys zs i) (get_or out i nan)

-- its squared distance, and that with the sign of the side of f on which it lies
abbrev pub Squares : Facet → List Float → List Float → List Float → List Float → Type 0
Squares f = Values (squared_on f)

abbrev pub SignedSquares : Facet → List Float → List Float → List Float → List Float → Type 0
SignedSquares f = Values (signed_squared_on f)

-- ---- the parts of the code

-- the squared length of p - q (`signed_square_to` has it with the sign of a side)
abbrev pub square_to : Point → Point → Float
square_to p q = (p -ᵥ q) · (p -ᵥ q)

-- the squared length from each to what `near` gives for it, and that with the sign of the side to which the normal n points
abbrev pub SquaresTo : (Point → Point) → List Float → List Float → List Float → List Float → Type 0
SquaresTo near = Values (λ p. square_to p (near p))

abbrev pub SignedSquaresTo : Point → (Point → Point) → List Float → List Float → List Float → List Float → Type 0
SignedSquaresTo n near = Values (λ p. signed_square_to n p (near p))
