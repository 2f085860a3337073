-- `Grid::from_bounding_box`: each part is that of the definition; refused by the test of the grid that was made, else that grid. Assumes
-- nothing.
use mathlib.Core.Path.{◌≡◌}
use Rattle.point.specs.declared.Point.{Point}
use Rattle.point.specs.Point.{vec}
use Rattle.grid.specs.declared.Grid.{Grid}
use Rattle.grid.specs.declared.Counts.{Counts}
use Rattle.grid.specs.Place.{from_box}
use Rattle.std.proofs.lemmas.Result.{err_from_is_err_and}
use Rattle.grid.proofs.Grid.from_bounding_box.Goals as goal
use Rattle.grid.proofs.Grid.from_bounding_box.Goals.{After-in_bounds_or_refused}

abbrev grid : Point → Point → Counts → Grid
grid first size n = record {
  first_cell = first;
  cell_size = size;
  count_x = n.x;
  count_y = n.y;
  count_z = n.z;
  upright = 2;
}

-- the grid that is made is the definition's
made : (c : After-in_bounds_or_refused) →
    let a = c.args in
    grid
    (vec c.first_from.result c.first_from-2.result c.first_from-3.result)
    (vec c.size_between-x.result c.size_between-y.result c.size_between-z.result)
    a.cell_count ≡ from_box a.bbox_min a.bbox_max a.cell_count
unfolding from_box
made c =
    rw (
      c.first_from.ensures,
      c.first_from-2.ensures,
      c.first_from-3.ensures,
      c.size_between-x.ensures,
      c.size_between-y.ensures,
      c.size_between-z.ensures,
    )

pub returns-in_err-in_bounds_or_refused : goal.returns-in_err-in_bounds_or_refused
returns-in_err-in_bounds_or_refused c =
    let p = err_from_is_err_and c.from_residual.result c.from_residual.ensures.1 in
    let refused = c.in_err-in_bounds_or_refused.ensures in
    rw (p.1, p.2, refused.0, ← made (search), refused.1)

pub returns : goal.returns
returns c = rw (← made (search), c.in_ok-in_bounds_or_refused.ensures)
