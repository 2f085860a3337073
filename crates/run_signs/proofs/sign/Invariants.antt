-- `run_signs::sign`: the loop fills the field from the front with the signed distances. Assumes nothing.
use lib.Ieee.{nan}
use Rattle.lists.specs.Table.{Filled}
use Rattle.run_signs.specs.Sign.{signed_at}
use Rattle.run_signs.proofs.sign.Given as goal

abbrev pub invariant-loop-i : goal.invariant-loop-i
invariant-loop-i l = Filled nan (signed_at l.crossings l.initial.field) l.initial.field l.i l.field
