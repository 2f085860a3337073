-- `run_cross_hits::cross_line`: a miss and a graze reach no cell; a hit reaches those up to the cell of its quotient
-- (`crates/run_cross_lines/proofs/Hits.antt`), and one is added from where the pass begins. Assumes nothing.
use Prim.Native.Nat.{ℕ}
use mathlib.Core.Path.{◌≡◌, sym, ap, ap₂, ◌∙◌}
use lib.Ieee.{Float}
use Rattle.point.specs.declared.Axis.{Axis}
use Rattle.float.specs.Arith.{◌⊘◌}
use Rattle.float_floor.specs.Cell.{floor_of, cell_of}
use Rattle.float_floor.proofs.Floors.{cell_lt}
use Rattle.grid.specs.declared.Grid.{Grid}
use Rattle.grid.specs.Axes.{count_on, size_on}
use Rattle.grid.proofs.Facts.{bounds_of, on_axis}
use Rattle.run_cross_lines.specs.Pass.{ahead}
use Rattle.run_cross_lines.proofs.Reach.{first_le}
use Rattle.run_cross_lines.proofs.Hits.{hit_grown}
use Rattle.run_cross_hits.proofs.cross_line.Goals as goal

-- the cell of a quotient, by the count and the size of the axis
last_is : (g : Grid) (axis : Axis) (t : Float) {last count : ℕ} {size : Float} → last ≡ cell_of count (floor_of (t ⊘ size)) → count ≡ count_on axis g → size ≡ size_on axis g
    → last ≡ cell_of (count_on axis g) (floor_of (t ⊘ size_on axis g))
last_is g axis t at counted sized = at ∙ ap₂ (λ (n : ℕ) (s : Float). cell_of n (floor_of (t ⊘ s))) counted sized

pub add_line-requires-clause-u_bound : goal.add_line-requires-clause-u_bound
add_line-requires-clause-u_bound c =
    let a = c.args in
    let t = c.in-Hit.t in
    let some = (on_axis (bounds_of a.grid c.requires.grid_value) a.axis).some in
    let last = last_is a.grid a.axis t c.cell-last.ensures.at c.count_on.ensures c.get.ensures in (
      c.requires.u_bound.0,
      c.requires.u_bound.1,
      rw c.first_added-first.ensures (first_le a.pass c.cell-last.result.index),
      rw last (cell_lt (count_on a.axis a.grid) (floor_of (t ⊘ size_on a.axis a.grid)) some),
    )

pub returns-in-Hit-clause-grown : goal.returns-in-Hit-clause-grown
returns-in-Hit-clause-grown c =
    let a = c.args in
    let t = c.in-Hit.t in
    let in_front = sym (ap ahead c.in-Hit.is) ∙ c.requires.hit_value in
    let last = last_is a.grid a.axis t c.cell-last.ensures.at c.count_on.ensures c.get.ensures in
    rw c.in-Hit.is (hit_grown a.pass a.grid a.axis a.u a.v c.first_added-first.result c.cell-last.result.index t c.requires.grid_value
    in_front last c.first_added-first.ensures c.add_line.ensures)
