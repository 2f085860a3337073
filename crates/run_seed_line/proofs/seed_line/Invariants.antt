-- `run_seed_line::seed_line`: the loop along z (`proofs/Along.antt`), in pieces of four. Assumes nothing.
use Prim.Native.Nat.{◌+◌, ◌-◌}
use Rattle.grid.specs.Axes.{cell_numbered}
use Rattle.grid.specs.Index.{index_of}
use Rattle.run_seed_cells.specs.Parts.{offer_to}
use Rattle.run_seed_line.proofs.Along.{Along}
use Rattle.run_seed_line.proofs.seed_line.Given as goal

abbrev pub invariant-loop-z : goal.invariant-loop-z
invariant-loop-z l = Along (λ z. offer_to l.grid l.sign l.f l.k (index_of l.grid (cell_numbered l.x l.y z))) l.lo l.hi l.initial.field l.initial.names l.field l.names l.z

abbrev pub decreases-loop-z : goal.decreases-loop-z
decreases-loop-z l = l.hi + 1 - l.z
