-- To what the closest points of a triangle belong: to its regions, or, where two corners are equal, to a segment or a point. Which of
-- them does not depend on the point. Assumes nothing.
use mathlib.Core.Path.{◌≡◌, refl, ap, ◌∙◌}
use mathlib.Core.Bool.{Bool, true, false, cond, ◌&&◌}
use mathlib.Core.List.{List}
use lib.Ieee.{Float}
use Rattle.point.specs.Point.{◌≐ᵥ◌}
use Rattle.point.specs.declared.Point.{Point}
use Rattle.geo_closest.specs.Closest.{closest_point_segment, closest_point_equal, closest_on, nearest, dots_of}
use Rattle.geo_closest.specs.declared.Facet.{Facet}
use Rattle.geo_closest.proofs.Picks.{picked, passed}
use Rattle.geo_distance.specs.Distance.{squared_on}
use Rattle.geo_side.specs.Side.{normal_of, above, signed_square_to, signed_squared_on}
use Rattle.geo_squares.specs.Squares.{point_at, Values, Squares, SignedSquares, square_to, SquaresTo, SignedSquaresTo}

-- what is said of the points that are near is said of the closest points: of the squared lengths, which are the squared distances,
module _ {xs ys zs out : List Float} (f : Facet) (near : Point → Point) (same : (p : Point) → near p ≡ closest_on f p) where
  alike : (value : Point → Point → Float) → Values (λ p. value p (near p)) xs ys zs out → Values (λ p. value p (closest_on f p)) xs ys zs out
  alike value all =
      record {
        long = all.long;
        each = λ i h. let p = point_at xs ys zs i in all.each i h ∙ ap (value p) (same p);
      }

  pub to_closest : SquaresTo near xs ys zs out → Squares f xs ys zs out
  unfolding squared_on
  to_closest = alike square_to

  -- and of those with a sign
  pub to_sided : SignedSquaresTo (normal_of f) near xs ys zs out → SignedSquares f xs ys zs out
  unfolding squared_on above signed_squared_on
  to_sided = alike (signed_square_to (normal_of f))

pub to_regions : (f : Facet) → f.equal ≡ false → (p : Point) → nearest (dots_of f p) f ≡ closest_on f p
unfolding closest_on
to_regions f e p = passed (closest_point_equal p f.a f.b f.c) e refl

module _ (f : Facet) (equal : f.equal ≡ true) where
  abbrev one_point : Bool
  one_point = (f.a ≐ᵥ f.b) && (f.b ≐ᵥ f.c) && (f.a ≐ᵥ f.c)

  abbrev other_end : Point
  other_end = cond (f.a ≐ᵥ f.b) f.c f.b

  pub to_point : one_point ≡ true → (p : Point) → f.a ≡ closest_on f p
  unfolding closest_on closest_point_equal
  to_point t p = picked (nearest (dots_of f p) f) equal (picked _ t refl)

  pub to_segment : one_point ≡ false → (p : Point) → closest_point_segment p f.a other_end ≡ closest_on f p
  unfolding closest_on closest_point_equal
  to_segment t p = picked (nearest (dots_of f p) f) equal (passed _ t (either (f.a ≐ᵥ f.b)))
    where
      either : (e : Bool) → closest_point_segment p f.a (cond e f.c f.b) ≡ cond e (closest_point_segment p f.a f.c) (closest_point_segment p f.a f.b)
      either true = refl
      either false = refl
