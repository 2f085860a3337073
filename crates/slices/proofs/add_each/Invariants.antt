-- `slices::add_each`: after i turns one was added at each of the first i places (`proofs/Steps.antt`). Assumes nothing.
use Rattle.slices.specs.Counts.{Stepped}
use Rattle.slices.proofs.add_each.Given as goal

abbrev pub invariant-loop-i : goal.invariant-loop-i
invariant-loop-i l = Stepped l.start l.step l.i l.initial.s l.s
