-- `words::is_word`: the test itself. Assumes nothing.
use Rattle.replay_steps.proofs.words.is_word.Goals as goal

pub returns : goal.returns
returns c = rw c.word.ensures
