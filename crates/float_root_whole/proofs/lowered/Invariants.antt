-- `float_root_whole::lowered`: q * q is above n + q only where q is above 0, so the loop ends before it. Assumes nothing.
use Prim.Native.Nat.{◌^◌, ◌<◌}
use Rattle.float_root_whole.proofs.lowered.Given as goal

abbrev pub invariant-loop-q : goal.invariant-loop-q
invariant-loop-q l = l.q < 2 ^ 25

abbrev pub decreases-loop-q : goal.decreases-loop-q
decreases-loop-q l = l.q
