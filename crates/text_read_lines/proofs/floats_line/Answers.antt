-- `text_read_lines::floats_line`: the key, and then the three floats, as in the reader on lists. Assumes nothing.
use mathlib.Core.Path.{◌∙◌}
use Rattle.text.specs.Reader.{floats_line}
use Rattle.text.proofs.Calls.{onward, stopped}
use Rattle.text_read_lines.proofs.floats_line.Goals as goal

pub returns-in_err-behind : goal.returns-in_err-behind
unfolding floats_line
returns-in_err-behind c = rw c.from_residual.ensures (stopped _ c.in_err-behind.ensures)

pub returns : goal.returns
unfolding floats_line
returns c = c.three_values.ensures ∙ onward _ c.in_ok-behind.ensures
