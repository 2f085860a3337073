-- `text_read_lines::upright_line`: one of the three words, or the value that is meant without them, as in the reader on lists. Assumes nothing.
use mathlib.Core.Path.{refl}
use Rattle.text.specs.Words.{line}
use Rattle.text.specs.Reader.{optional, one_of, upright_line}
use Rattle.text.proofs.Calls.{onward, stopped, the_first, the_second}
use Rattle.text_read_lines.proofs.upright_line.Goals as goal

pub returns-in-Some : goal.returns-in-Some
unfolding optional upright_line one_of line
returns-in-Some c =
    the_first _ (the_first _ (onward _ c.in-Some.ensures))

pub returns-in-Some-after : goal.returns-in-Some-after
unfolding optional upright_line one_of line
returns-in-Some-after c =
    the_first _ (the_second (stopped _ c.in_default.ensures)
    (the_first _ (onward _ c.in-Some-after.ensures)))

pub returns-in-Some-after-2 : goal.returns-in-Some-after-2
unfolding optional upright_line one_of line
returns-in-Some-after-2 c =
    the_first _ (the_second (stopped _ c.in_default.ensures)
    (the_second (stopped _ c.in_default-after.ensures)
    (the_first _ (onward _ c.in-Some-after-2.ensures))))

pub returns : goal.returns
unfolding optional upright_line one_of line
returns c =
    the_second (the_second (stopped _ c.in_default.ensures)
    (the_second (stopped _ c.in_default-after.ensures)
    (the_second (stopped _ c.in_default-after-2.ensures) refl))) refl
