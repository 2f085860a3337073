-- `run_cross_lines::entry`: three times the index, and the axis's place. Assumes nothing.
use borrow.Author.Rules.{rules}
use Rattle.run_cross_lines.specs.Lines.{entry_of}
use Rattle.run_cross_lines.proofs.entry.Goals as goal

pub returns : goal.returns
unfolding entry_of
returns c = search rules
