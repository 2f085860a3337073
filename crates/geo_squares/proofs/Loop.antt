-- The loop over a row of points: before its turn i each of the first i points has its value stored. Assumes nothing.
use Prim.Native.Nat.{ℕ, ◌<◌}
use mathlib.Core.Path.{◌≡◌}
use mathlib.Core.List.{List}
use lib.ListN.{get_or}
use lib.Ieee.{Float, nan}
use Rattle.point.specs.declared.Point.{Point}
use Rattle.geo_squares.specs.Squares.{point_at, GivenBy, Values}

-- what holds before the turn i
abbrev pub Upto : (Point → Float → Type 0) → List Float → List Float → List Float → ℕ → List Float → Type 0
Upto gives xs ys zs i out = (k : ℕ) → k < i → gives (point_at xs ys zs k) (get_or out k nan)

-- where a call gives what `value` says, all have that
pub as_values : {gives : Point → Float → Type 0} {value : Point → Float} {xs ys zs out : List Float}
    → ((p : Point) (r : Float) → gives p r → r ≡ value p) → GivenBy gives xs ys zs out → Values value xs ys zs out
as_values {gives} {value} {xs} {ys} {zs} {out} says given =
    record { long = given.long; each = λ i h. says (point_at xs ys zs i) (get_or out i nan) (given.each i h) }
