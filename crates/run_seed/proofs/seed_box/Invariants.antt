-- `run_seed::seed_box`: the loop along x (`crates/run_seed_line/proofs/Along.antt`). Assumes nothing.
use Rattle.run_seed_cells.specs.Parts.{along_plane}
use Rattle.run_seed_line.proofs.Along.{Along}
use Rattle.run_seed.proofs.seed_box.Given as goal

abbrev pub invariant-loop-x : goal.invariant-loop-x
invariant-loop-x l = Along (λ x. along_plane l.grid l.sign l.f l.k x l.low l.high) l.low.x l.high.x l.initial.field l.initial.names l.field l.names l.x
