-- `run_seed_box::snapped`: the cell of the snap. Assumes nothing.
use mathlib.Core.Path.{ap, ◌∙◌}
use Rattle.grid.specs.declared.Snap.{Snap}
use Rattle.grid.proofs.Snaps.{snap_cell_lem}
use Rattle.run_seed_box.proofs.snapped.Goals as goal

pub returns : goal.returns
returns c = ap (λ (s : Snap). s.cell) c.snap_point_to_grid-snap.ensures ∙ snap_cell_lem c.args.grid c.args.p
