-- `Grid::in_bounds`: the product is asked for only where each axis is within its bounds, and then the counts are few. Assumes nothing.
use mathlib.Core.Path.{◌≡◌, sym, ◌∙◌}
use mathlib.Core.Bool.{◌&&◌, and-true, and_assoc}
use lib.Dec.{leb}
use Rattle.grid.specs.Axes.{on_every}
use Rattle.grid.specs.Bounds.{is_axis, is_upright, in_bounds}
use Rattle.grid.proofs.Grid.in_bounds.Goals as goal
use Rattle.grid.proofs.Grid.in_bounds.Goals.{After-struct_known-1}

-- what the three calls found is the test of every axis, and beside it stands the test of the upright one
found : (c : After-struct_known-1) →
    let g = c.args.self in
    (on_every (is_axis g) && is_upright g.upright) ≡ (c.axis_in_bounds-x.result && c.axis_in_bounds-y.result && c.axis_in_bounds-z.result && leb g.upright 2)
found c = sym (λ i. c.axis_in_bounds-x.ensures i && c.axis_in_bounds-y.ensures i && c.axis_in_bounds-z.ensures i && leb c.args.self.upright 2)

pub returns-then-not-x-y : goal.returns-then-not-x-y
unfolding in_bounds
returns-then-not-x-y c = rw (← and_assoc, found (search) ∙ c.if-not-x-y.true)

pub returns : goal.returns
unfolding in_bounds
returns c = rw (← and_assoc, found (search) ∙ c.if-not-x-y.false, c.total_in_bounds.ensures, and-true)
