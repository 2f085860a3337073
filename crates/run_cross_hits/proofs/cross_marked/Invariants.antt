-- `run_cross_hits::cross_marked`: the lines before v are crossed and those of them that graze counted. A line that is not marked is missed
-- (`crates/run_cross_lines/proofs/Hits.antt`), so that nothing is to be added there. Assumes nothing.
use mathlib.Core.Path.{◌≡◌}
use mathlib.Core.Bool.{◌&&◌}
use lib.Dec.{ltb}
use Rattle.run.specs.Grazed.{grazed_in_row}
use Rattle.run_cross_lines.specs.Lines.{v_of}
use Rattle.run_cross_lines.specs.Pass.{Grown, row_crossed, row_hit}
use Rattle.run_cross_hits.proofs.cross_marked.Given as goal

abbrev pub invariant-loop-v : goal.invariant-loop-v
invariant-loop-v l =
    (l.grazed ≡ grazed_in_row l.v (row_hit l.z0 l.z1 l.z2 l.ys l.xs))
    × Grown l.grid (λ a c. ltb (v_of l.axis c) l.v && row_crossed l.pass l.grid l.axis l.u (row_hit l.z0 l.z1 l.z2 l.ys l.xs) a c) l.initial.crossings l.crossings
