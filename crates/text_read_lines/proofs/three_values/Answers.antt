-- `text_read_lines::three_values`: the three calls are those of the reader on lists. Assumes nothing.
use Rattle.text.proofs.Calls.{three_not, three_not_2, three_not_3, three_are}
use Rattle.text_read_lines.proofs.three_values.Goals as goal

pub returns-in_err-x : goal.returns-in_err-x
returns-in_err-x c = rw c.from_residual.ensures (three_not _ c.in_err-x.ensures)

pub returns-in_err-y : goal.returns-in_err-y
returns-in_err-y c = rw c.from_residual-in_err-y.ensures (three_not_2 _ c.in_ok-x.ensures c.in_err-y.ensures)

pub returns-in_err-z : goal.returns-in_err-z
returns-in_err-z c = rw c.from_residual-in_err-z.ensures (three_not_3 _ c.in_ok-x.ensures c.in_ok-y.ensures c.in_err-z.ensures)

pub returns : goal.returns
returns c = three_are _ c.in_ok-x.ensures c.in_ok-y.ensures c.in_ok-z.ensures
