-- `words::point`: three floats. Assumes nothing.
use Rattle.replay_steps.proofs.words.point.Goals as goal

pub returns : goal.returns
returns c = rw (c.real-3.ensures, c.real-2.ensures, c.real.ensures)
