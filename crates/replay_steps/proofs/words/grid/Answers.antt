-- `words::grid`: two points, a cell and a word. Assumes nothing.
use Rattle.replay_steps.proofs.words.grid.Goals as goal

pub returns : goal.returns
returns c = rw (c.word.ensures, c.cell.ensures, c.point-2.ensures, c.point.ensures)
