-- `parts::snap_point_to_grid`: the cell and the test that the three calls give are those of the definition. Assumes nothing.
use mathlib.Core.Path.{◌≡◌, sym, ap, ◌∙◌}
use mathlib.Core.Bool.{◌||◌}
use Rattle.grid.specs.declared.Cell.{Cell}
use Rattle.grid.specs.declared.Snap.{Snap}
use Rattle.grid.specs.declared.SnapResult.{SnapResult}
use Rattle.grid.specs.declared.SnapResult.TheVariants.{Inside, Outside}
use Rattle.grid.specs.Axes.{cell_numbered}
use Rattle.grid.specs.Place.{snap, snap_cell, clamped}
use Rattle.grid.proofs.parts.snap_point_to_grid.Goals as goal
use Rattle.grid.proofs.parts.snap_point_to_grid.Goals.{After-struct_known-3-1}

abbrev found : SnapResult → Cell → Snap
found r k = record { result = r; cell = k }

snapped : (c : After-struct_known-3-1) →
    let s = c.args in
    cell_numbered c.snap_on-x.result.index c.snap_on-y.result.index c.snap_on-z.result.index ≡ snap_cell s.grid s.point
unfolding snap_cell
snapped c = rw (c.snap_on-x.ensures.at, c.snap_on-y.ensures.at, c.snap_on-z.ensures.at)

past : (c : After-struct_known-3-1) →
    let s = c.args in
    clamped s.grid s.point ≡ (c.snap_on-x.result.clamped || c.snap_on-y.result.clamped || c.snap_on-z.result.clamped)
unfolding clamped
past c = rw (c.snap_on-x.ensures.past, c.snap_on-y.ensures.past, c.snap_on-z.ensures.past)

pub returns-then-x-y : goal.returns-then-x-y
unfolding snap
returns-then-x-y c = ap (found Outside) (snapped (search)) ∙ sym (rw (past (search) ∙ c.if-x-y.true))

pub returns : goal.returns
unfolding snap
returns c = ap (found Inside) (snapped (search)) ∙ sym (rw (past (search) ∙ c.if-x-y.false))
