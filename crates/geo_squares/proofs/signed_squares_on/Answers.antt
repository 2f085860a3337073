-- `geo_squares::signed_squares_on`: what a point gets in each form of the triangle is the value of its closest point (`proofs/Equal.antt`).
-- Assumes nothing.
use mathlib.Core.Path.{refl}
use Rattle.std.proofs.Common.{rules}
use Rattle.geo_closest.specs.Closest.{nearest, dots_of, closest_on}
use Rattle.geo_squares.proofs.Equal.{to_sided, to_regions}
use Rattle.geo_squares.proofs.Loop.{as_values}
use Rattle.geo_squares.proofs.signed_squares_on.Goals as goal

-- equal corners
pub returns-then-equal : goal.returns-then-equal
returns-then-equal c =
    let f = c.args.f in
    to_sided f (λ p. closest_on f p) (λ p. refl) (as_values (λ p r gives. search rules) c.give_each.ensures)

-- three corners
pub returns-else-equal : goal.returns-else-equal
returns-else-equal c =
    let f = c.args.f in
    to_sided f (λ p. nearest (dots_of f p) f) (to_regions f c.if-equal.false) (as_values (λ p r gives. search rules) c.give_each-else-equal.ensures)
