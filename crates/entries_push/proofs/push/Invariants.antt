-- `entries_push::push`: the gap has gone up from behind the entries that wait, and e goes no later than what is below it. Assumes nothing.
use Prim.Native.Nat.{◌+◌}
use Rattle.queue.specs.Keys.{by_keys}
use Rattle.queue.specs.Heap.{Below}
use Rattle.queue.specs.Queue.{blank}
use Rattle.queue.proofs.Moves.{Moved}
use Rattle.entries_push.proofs.push.Given as goal

abbrev pub invariant-loop-i : goal.invariant-loop-i
invariant-loop-i l =
    Moved by_keys blank (l.n + 1) l.e l.initial.row l.n l.row l.i
    × Below by_keys blank (l.n + 1) l.row l.i l.e

abbrev pub decreases-loop-i : goal.decreases-loop-i
decreases-loop-i l = l.i
