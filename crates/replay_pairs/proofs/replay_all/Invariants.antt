-- `replay_all`: there are no more differences than four for each text.
use Rattle.std.proofs.Common.{◌≡◌, ◌≤◌, ◌*◌, length}
use Rattle.replay_pairs.proofs.replay_all.Given as goal

abbrev pub invariant-loop-texts : goal.invariant-loop-texts
invariant-loop-texts g l = (128 ≡ length l.line) × (l.differences ≤ 4 * l.texts)
