-- `text_read_parts::tail`: its two lines and the one that may be left out, as in the reader on lists. Assumes nothing.
use mathlib.Core.Path.{◌∙◌}
use Rattle.text.specs.Reader.{tail_at}
use Rattle.text.proofs.Calls.{onward, stopped}
use Rattle.text_read_parts.proofs.tail.Goals as goal

pub returns-in_err-room : goal.returns-in_err-room
unfolding tail_at
returns-in_err-room c = rw c.from_residual.ensures (stopped _ c.in_err-room.ensures)

pub returns-in_err-limit : goal.returns-in_err-limit
unfolding tail_at
returns-in_err-limit c =
    rw c.from_residual-in_err-limit.ensures (stopped _ c.in_err-limit.ensures ∙ onward _ c.in_ok-room.ensures)

pub returns : goal.returns
unfolding tail_at
returns c = onward _ c.table_line-table.ensures ∙ onward _ c.in_ok-limit.ensures ∙ onward _ c.in_ok-room.ensures
