-- `text_read_lines::table_line`: a line with a number, or the value that is meant without it, as in the reader on lists. Assumes nothing.
use mathlib.Core.Path.{refl}
use Rattle.text.specs.Reader.{optional, table_line}
use Rattle.text.proofs.Calls.{onward, stopped, the_first, the_second}
use Rattle.text_read_lines.proofs.table_line.Goals as goal

pub returns-in-Some : goal.returns-in-Some
unfolding optional table_line
returns-in-Some c =
    the_first _ (onward _ c.in-Some.ensures)

pub returns : goal.returns
unfolding optional table_line
returns c = the_second (stopped _ c.in_default.ensures) refl
