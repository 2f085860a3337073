-- `run_seed::seed_plane`: the loop along y (`crates/run_seed_line/proofs/Along.antt`). Assumes nothing.
use Rattle.run_seed_cells.specs.Parts.{along_line}
use Rattle.run_seed_line.proofs.Along.{Along}
use Rattle.run_seed.proofs.seed_plane.Given as goal

abbrev pub invariant-loop-y : goal.invariant-loop-y
invariant-loop-y l = Along (λ y. along_line l.grid l.sign l.f l.k l.x y l.low.z l.high.z) l.low.y l.high.y l.initial.field l.initial.names l.field l.names l.y
