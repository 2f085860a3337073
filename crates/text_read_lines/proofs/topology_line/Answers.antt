-- `text_read_lines::topology_line`: one word or the other, as in the reader on lists. Assumes nothing.
use mathlib.Core.Path.{refl}
use Rattle.text.specs.Words.{line}
use Rattle.text.specs.Reader.{one_of, topology_line}
use Rattle.text.proofs.Calls.{onward, stopped, the_first, the_second}
use Rattle.text_read_lines.proofs.topology_line.Goals as goal

pub returns-in-Some : goal.returns-in-Some
unfolding topology_line one_of line
returns-in-Some c =
    the_first _ (onward _ c.in-Some.ensures)

pub returns-in_err-next : goal.returns-in_err-next
unfolding topology_line one_of line
returns-in_err-next c =
    rw c.from_residual.ensures (the_second (stopped _ c.in_default.ensures) (the_second (stopped _ c.in_err-next.ensures) refl))

pub returns : goal.returns
unfolding topology_line one_of line
returns c =
    the_second (stopped _ c.in_default.ensures)
    (the_first _ (onward _ c.in_ok-next.ensures))
