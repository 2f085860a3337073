-- `facet_stale::is_tail`: what was passed is none, and what is not decides the answer. Assumes nothing.
use Prim.Native.Nat.{ℕ, ◌≤◌, ◌<◌}
use mathlib.Core.Path.{◌≡◌}
use lib.ListN.{get_or}
use Rattle.run.specs.Run.{none}
use Rattle.facet_stale.proofs.is_tail.Given as goal

abbrev pub invariant-loop-p : goal.invariant-loop-p
invariant-loop-p l = (q : ℕ) → q < l.p → l.end ≤ q → get_or l.list q 0 ≡ none
