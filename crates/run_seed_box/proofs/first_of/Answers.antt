-- `run_seed_box::first_of`: what the calls ensure, axis by axis. Assumes nothing.
use mathlib.Core.Path.{sym, subst}
use Rattle.run_seed_box.proofs.Boxes.{Small, snap_small, first_is}
use Rattle.run_seed_box.proofs.first_of.Goals as goal

pub get_cell_center-m-requires : goal.get_cell_center-m-requires
get_cell_center-m-requires c =
    subst Small (sym c.snapped-c.ensures) (snap_small c.args.grid c.args.low c.requires)

pub returns : goal.returns
returns c =
    first_is _ _ _ _ _ _ _ c.snapped-c.ensures c.get_cell_center-m.ensures c.lowered.ensures c.lowered-2.ensures c.lowered-3.ensures
