-- `entries_push_all::push_all`: the first j entries of the batch are in, whatever the field and the names are. Assumes nothing.
use Rattle.entries_push_all.proofs.Pushing.{Pushing}
use Rattle.entries_push_all.proofs.push_all.Given as goal

abbrev pub invariant-loop-j : goal.invariant-loop-j
invariant-loop-j l = Pushing l.b l.initial.row l.initial.reached l.j l.row l.reached
