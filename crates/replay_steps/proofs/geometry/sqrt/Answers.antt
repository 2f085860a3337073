-- `geometry::sqrt`: the calls in turn, from the last. Assumes nothing.
use Rattle.replay_steps.proofs.geometry.sqrt.Goals as goal

pub returns : goal.returns
returns c = rw (c.is_real.ensures, c.sdf_sqrt.ensures.is, c.real-x.ensures)
