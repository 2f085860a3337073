-- `geo_squares::squares_on`: what a point gets in each form of the triangle is the value of its closest point (`proofs/Equal.antt`).
-- Assumes nothing.
use mathlib.Core.Path.{sym, ◌∙◌}
use Rattle.std.proofs.Common.{rules}
use Rattle.geo_closest.specs.Closest.{nearest, dots_of, closest_point_segment}
use Rattle.geo_squares.proofs.Equal.{to_closest, to_regions, to_point, to_segment}
use Rattle.geo_squares.proofs.Loop.{as_values}
use Rattle.geo_squares.proofs.squares_on.Goals as goal

-- one point
pub returns-then-one_point : goal.returns-then-one_point
returns-then-one_point c =
    let f = c.args.f in
    let same = to_point f c.if-equal.true (sym c.one_point.ensures ∙ c.if-one_point.true) in
    to_closest f (λ p. f.a) same (as_values (λ p r gives. search rules) c.give_each.ensures)

-- a segment
pub returns-else-one_point : goal.returns-else-one_point
returns-else-one_point c =
    let f = c.args.f in
    let same = to_segment f c.if-equal.true (sym c.one_point.ensures ∙ c.if-one_point.false) in
    to_closest f (λ p. closest_point_segment p f.a _) same (as_values (λ p r gives. search rules) c.give_each-else-one_point.ensures)

-- three corners
pub returns-else-equal : goal.returns-else-equal
returns-else-equal c =
    let f = c.args.f in
    to_closest f (λ p. nearest (dots_of f p) f) (to_regions f c.if-equal.false) (as_values (λ p r gives. search rules) c.give_each-else-equal.ensures)
