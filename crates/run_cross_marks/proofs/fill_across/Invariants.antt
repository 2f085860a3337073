-- `run_cross_marks::fill_across`: the parts of the lines before i are there (`crates/run_cross_lines/proofs/Marks.antt`). Assumes nothing.
use Rattle.run_cross_lines.specs.Pass.{Across}
use Rattle.run_cross_marks.proofs.fill_across.Given as goal

abbrev pub invariant-loop-i : goal.invariant-loop-i
invariant-loop-i l =
    Across l.grid l.axis l.cast l.i l.z0 l.z1 l.z2
