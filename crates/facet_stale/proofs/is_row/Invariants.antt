-- `facet_stale::is_row`: the places before p were read (`proofs/Rows.antt`). Assumes nothing.
use Rattle.facet_stale.proofs.Rows.{Read}
use Rattle.facet_stale.proofs.is_row.Given as goal

abbrev pub invariant-loop-p : goal.invariant-loop-p
invariant-loop-p l = Read l.facet l.names l.list l.from l.to l.least l.p
