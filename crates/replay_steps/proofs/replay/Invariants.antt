-- `replay`: a case has a word at least, so there are no more cases than words passed; the measure is the words that are left.
use Rattle.std.proofs.Common.{◌≤◌, ◌+◌, ◌-◌, ◌^◌}
use Rattle.replay_steps.proofs.replay.Given as goal

abbrev pub invariant-loop-base : goal.invariant-loop-base
invariant-loop-base g l = (l.differences ≤ l.cases) × (l.cases ≤ l.base) × (l.base ≤ l.words + 31) × (l.words ≤ 2 ^ 61)

abbrev pub decreases-loop-base : goal.decreases-loop-base
decreases-loop-base g l = l.words - l.base
