-- `words::cell`: three words. Assumes nothing.
use Rattle.replay_steps.proofs.words.cell.Goals as goal

pub returns : goal.returns
returns c = rw (c.word-3.ensures, c.word-2.ensures, c.word.ensures)
