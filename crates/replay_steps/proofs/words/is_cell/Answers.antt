-- `words::is_cell`: three words. Assumes nothing.
use Rattle.replay_steps.proofs.words.is_cell.Goals as goal

pub returns : goal.returns
returns c = rw (c.is_word-3.ensures, c.is_word-2.ensures, c.is_word.ensures)
