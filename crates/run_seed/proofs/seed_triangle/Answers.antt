-- `run_seed::seed_triangle`: the box and the facet are those of the definition, and the last cell of the box is on the grid. Assumes nothing.
use mathlib.Core.Path.{sym, subst}
use Rattle.grid.specs.Index.{Inside}
use Rattle.grid.proofs.Facts.{bounds_of, on_axis}
use Rattle.run.specs.Input.{snapped_box}
use Rattle.run.proofs.Inputs.{last_inside}
use Rattle.run_seed_cells.specs.Parts.{over_box}
use Rattle.run_seed.proofs.seed_triangle.Goals as goal

pub seed_box-requires : goal.seed_box-requires
seed_box-requires c = record { grid_value = (c.requires.grid_value, subst (Inside c.args.grid) (sym c.last_of-high.ensures) (last_inside c.args.grid (λ a. (on_axis (bounds_of c.args.grid c.requires.grid_value) a).some) c.triangle_bounding_box-b.result.high)); field_len = (c.requires.field_len.0, c.requires.field_len.1) }

pub returns : goal.returns
unfolding over_box snapped_box
returns c =
    rw (c.facet_of-f.ensures, c.first_of-low.ensures, c.last_of-high.ensures, c.triangle_bounding_box-b.ensures) at c.seed_box.ensures
