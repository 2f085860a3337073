-- `step_from`: the three tests are the test of a step, and the three shifts its cell. Assumes nothing.
use mathlib.Core.Path.{◌≡◌, sym, ap, ◌∙◌}
use mathlib.Core.Bool.{Bool, true, false, ◌&&◌}
use Rattle.point.specs.declared.Axis.{Axis}
use Rattle.point.specs.declared.Axis.TheVariants.{X, Y, Z}
use Rattle.grid.specs.declared.Cell.{Cell}
use Rattle.grid.specs.Axes.{count_on, cell_on}
use Rattle.grid.specs.Index.{index_of}
use Rattle.grid.proofs.Facts.{each}
use Rattle.run.specs.Steps.{Step, shift_on, stays_on}
use Rattle.run_around.specs.Around.{step_of}
use Rattle.run_around.proofs.Steps.{stays, next, next_inside, spot_on, spot_off}
use Rattle.run_around.proofs.step_from.Goals as goal
use Rattle.run_around.proofs.step_from.Goals.{After-shifted-then-on_x-on_y-2, After-stays_on-on_z, Then-on_x-on_y}

abbrev step : After-stays_on-on_z → Step
step s = step_of s.args.step

-- what the tests found is what the step's test says
found : (c : After-stays_on-on_z) (b : Bool) → (c.stays_on-on_x.result && c.stays_on-on_y.result && c.stays_on-on_z.result) ≡ b →
    stays c.args.grid c.args.cell (step c) ≡ b
found c b t = rw (← c.stays_on-on_x.ensures, ← c.stays_on-on_y.ensures, ← c.stays_on-on_z.ensures) t

on : (c : Then-on_x-on_y) → stays c.args.grid c.args.cell (step (search)) ≡ true
on c = found (search) true c.if-on_x-on_y.true

on_axis : (c : Then-on_x-on_y) (a : Axis) →
    stays_on (count_on a c.args.grid) (shift_on a (step (search))) (cell_on a c.args.cell) ≡ true
on_axis c = each (λ a. stays_on (count_on a c.args.grid) (shift_on a (step (search))) (cell_on a c.args.cell)) (on c)

-- the cell that is made is the step's
abbrev made : After-shifted-then-on_x-on_y-2 → Cell
made c = record { x = c.shifted.result; y = c.shifted-then-on_x-on_y.result; z = c.shifted-then-on_x-on_y-2.result }

made_is : (c : After-shifted-then-on_x-on_y-2) → made c ≡ next c.args.cell (step (search))
made_is c = λ i. record { x = c.shifted.ensures i; y = c.shifted-then-on_x-on_y.ensures i; z = c.shifted-then-on_x-on_y-2.ensures i }

pub stays_on-on_x-requires : goal.stays_on-on_x-requires
stays_on-on_x-requires c = c.requires.1.x_below

pub stays_on-on_y-requires : goal.stays_on-on_y-requires
stays_on-on_y-requires c = c.requires.1.y_below

pub stays_on-on_z-requires : goal.stays_on-on_z-requires
stays_on-on_z-requires c = c.requires.1.z_below

pub shifted-requires : goal.shifted-requires
shifted-requires c = (c.requires.1.x_below, on_axis c X)

pub shifted-requires-then-on_x-on_y : goal.shifted-requires-then-on_x-on_y
shifted-requires-then-on_x-on_y c = (c.requires.1.y_below, on_axis (search) Y)

pub shifted-requires-then-on_x-on_y-2 : goal.shifted-requires-then-on_x-on_y-2
shifted-requires-then-on_x-on_y-2 c = (c.requires.1.z_below, on_axis (search) Z)

pub get_cell_idx-index-requires : goal.get_cell_idx-index-requires
get_cell_idx-index-requires c =
    (c.requires.0, rw (made_is c) (next_inside c.args.grid c.args.cell (step (search)) c.requires.1 (on (search))))

pub returns-then-on_x-on_y : goal.returns-then-on_x-on_y
returns-then-on_x-on_y c =
    (λ i. record { index = (c.get_cell_idx-index.ensures ∙ ap (index_of c.args.grid) (made_is (search))) i; cell = made_is (search) i })
    ∙ sym (spot_on c.args.grid c.args.cell (step (search)) (on (search)))

pub returns : goal.returns
returns c = sym (spot_off c.args.grid c.args.cell (step (search)) (found (search) false c.if-on_x-on_y.false))
