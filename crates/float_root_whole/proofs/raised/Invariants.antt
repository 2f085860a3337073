-- `float_root_whole::raised`: a step up from a q with q * q + q < n keeps q * q < n + q, and the loop ends where the other half of `NearestTo` holds. Assumes nothing.
use Prim.Native.Nat.{◌+◌, ◌-◌, ◌*◌, ◌^◌, ◌<◌}
use Rattle.float_root_whole.proofs.raised.Given as goal

abbrev pub invariant-loop-q : goal.invariant-loop-q
invariant-loop-q l = (l.q < 2 ^ 25) × (l.q * l.q < l.n + l.q)

abbrev pub decreases-loop-q : goal.decreases-loop-q
decreases-loop-q l = 2 ^ 25 - l.q
