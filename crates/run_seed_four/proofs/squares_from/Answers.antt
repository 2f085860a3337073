-- `run_seed_four::squares_from`: the four points are the centres of the cells, so what `squares_by` tells of them is what is asked. Assumes
-- nothing.
use native.Mathlib.Omega.{arith}
use Prim.Native.Nat.{◌+◌, ◌<◌}
use Rattle.grid.proofs.Facts.{bounds_of}
use Rattle.run_seed_box.proofs.Boxes.{small}
use Rattle.run_seed_four.proofs.Fours.{four}
use Rattle.run_seed_four.proofs.squares_from.Goals as goal
use Rattle.run_seed_four.proofs.squares_from.Goals.{After-struct_known-1}

-- three behind a cell of the grid is a small number too
near : (s : After-struct_known-1) → s.args.at.z + 3 < 65536
near s = omega (arith, (bounds_of s.args.grid s.requires.0).on_z.few, s.requires.1.z_below)

pub get_cell_center-p-requires : goal.get_cell_center-p-requires
get_cell_center-p-requires c = small c.args.grid c.args.at c.requires.0 c.requires.1

pub centre_on-requires : goal.centre_on-requires
centre_on-requires c = omega (arith, near c)

pub overflow_add-at-2 : goal.overflow_add-at-2
overflow_add-at-2 c = omega (arith, near (search))

pub centre_on-requires-2 : goal.centre_on-requires-2
centre_on-requires-2 c = omega (arith, near (search))

pub overflow_add-at-3 : goal.overflow_add-at-3
overflow_add-at-3 c = omega (arith, near (search))

pub centre_on-requires-3 : goal.centre_on-requires-3
centre_on-requires-3 c = omega (arith, near (search))

pub returns : goal.returns
returns c =
    four c.args.grid c.args.at c.get_cell_center-p.result c.get_cell_center-p.ensures c.args.sign c.args.f _ _ _ _ c.centre_on.ensures c.centre_on-2.ensures c.centre_on-3.ensures c.squares_by.ensures
