-- `run_seed_box::last_of`: what the calls ensure, axis by axis. Assumes nothing.
use mathlib.Core.Path.{sym, subst}
use Rattle.grid.specs.Index.{Inside}
use Rattle.grid.proofs.Snaps.{snap_within}
use Rattle.run_seed_box.proofs.Boxes.{Small, snap_small, last_is}
use Rattle.run_seed_box.proofs.last_of.Goals as goal
use Rattle.run_seed_box.proofs.last_of.Goals.{After-get_cell_center-m}

-- the snapped cell is on the grid
on_grid : (c : After-get_cell_center-m) → Inside c.args.grid c.snapped-c.result
on_grid c =
    subst (Inside c.args.grid) (sym c.snapped-c.ensures) (snap_within c.args.grid c.args.high c.requires)

pub get_cell_center-m-requires : goal.get_cell_center-m-requires
get_cell_center-m-requires c =
    subst Small (sym c.snapped-c.ensures) (snap_small c.args.grid c.args.high c.requires)

pub raised-requires : goal.raised-requires
raised-requires c = (on_grid c).x_below

pub raised-requires-2 : goal.raised-requires-2
raised-requires-2 c = (on_grid (search)).y_below

pub raised-requires-3 : goal.raised-requires-3
raised-requires-3 c = (on_grid (search)).z_below

pub returns : goal.returns
returns c =
    last_is _ _ _ _ _ _ _ c.snapped-c.ensures c.get_cell_center-m.ensures c.raised.ensures c.raised-2.ensures c.raised-3.ensures
