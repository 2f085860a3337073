-- `replay_pairs::number_in` meets its contract. The invariant: the number so far is at most 65,536. Assumes nothing.
use Prim.Native.Nat.{◌≤◌}
use Rattle.replay_pairs.proofs.number_in.Given as goal

abbrev pub invariant-loop-i : goal.invariant-loop-i
invariant-loop-i l = l.value ≤ 65536
