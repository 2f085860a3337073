-- `run_cross_rows::cross_rows`: the rows before u are crossed, and those of their lines that graze counted (`crates/run_cross_lines/proofs/Grown.antt`). Assumes nothing.
use mathlib.Core.Path.{◌≡◌}
use mathlib.Core.Bool.{◌&&◌}
use lib.Dec.{ltb}
use Rattle.run.specs.Grazed.{grazed_in_rows}
use Rattle.run_cross_lines.specs.Lines.{u_of}
use Rattle.run_cross_lines.specs.Pass.{Grown, axis_crossed, cast_hit}
use Rattle.run_cross_rows.proofs.cross_rows.Given as goal

abbrev pub invariant-loop-u : goal.invariant-loop-u
invariant-loop-u l =
    (l.grazed ≡ grazed_in_rows l.grid l.axis l.u (cast_hit l.grid l.axis l.cast l.z0 l.z1 l.z2))
    × Grown l.grid (λ a c. ltb (u_of l.axis c) l.u && axis_crossed l.pass l.grid l.axis (cast_hit l.grid l.axis l.cast l.z0 l.z1 l.z2) a c) l.initial.crossings l.crossings
