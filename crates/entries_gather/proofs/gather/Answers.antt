-- `gather`: the invariant is that what was offered comes to the entries so far. Assumes nothing.
use mathlib.Core.Path.{refl}
use Rattle.entries_gather.proofs.Gathering.{gathering_starts, may_pass, gathering_passed, gathering_took, gathering_stops, gathering_ends}
use Rattle.entries_gather.proofs.gather.Goals as goal
use Rattle.entries_gather.proofs.gather.Goals.{in-Some, in_default}

pub loop-j-init : goal.loop-j-init
loop-j-init c = gathering_starts _ _ _ _ _ _ _ refl refl

pub consider-requires : goal.consider-requires
consider-requires c = may_pass _ _ _ _ _ c.loop-j.invariant c.loop-j-test.true c.requires

pub returns-in-Err : goal.returns-in-Err
returns-in-Err c =
    rw c.number.ensures (gathering_stops _ _ _ _ _ c.loop-j.invariant c.loop-j-test.true c.consider.auto.field c.consider.auto.names c.in-Err.ensures)

pub loop-j-preserved : goal.loop-j-preserved
loop-j-preserved c =
    elim c.match-taken.branch [
      | in-Some w ↦
          rw (w.cells-is, w.distances-is, w.count-is)
          (gathering_took _ _ _ _ _ c.loop-j.invariant c.loop-j-test.true c.consider.auto.field c.consider.auto.names (rw w.in-Some.is at c.in-Ok.ensures))
      | in_default w ↦
          rw (w.cells-is, w.distances-is, w.count-is)
          (gathering_passed _ _ _ _ _ c.loop-j.invariant c.loop-j-test.true c.consider.auto.field c.consider.auto.names (rw w.in_default.is at c.in-Ok.ensures))
    ]

pub returns : goal.returns
returns c = gathering_ends _ _ _ _ _ c.loop-j.invariant c.loop-j-test.false
