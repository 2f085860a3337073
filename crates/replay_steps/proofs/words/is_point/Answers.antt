-- `words::is_point`: three floats. Assumes nothing.
use Rattle.replay_steps.proofs.words.is_point.Goals as goal

pub returns : goal.returns
returns c = rw (c.is_real-3.ensures, c.is_real-2.ensures, c.is_real.ensures)
