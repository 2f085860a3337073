-- `geometry::sqrt_bits`: the calls in turn, from the last. Assumes nothing.
use Rattle.replay_steps.proofs.geometry.sqrt_bits.Goals as goal

pub returns : goal.returns
returns c = rw (c.is_word.ensures, c.sdf_sqrt_bits.ensures, c.word-b.ensures)
