-- `text_read_lines::sign_line`: the word, or the value that is meant without it, as in the reader on lists. Assumes nothing.
use mathlib.Core.Path.{refl}
use Rattle.text.specs.Words.{line}
use Rattle.text.specs.Reader.{optional, one_of, normal_line}
use Rattle.text.proofs.Calls.{onward, stopped, the_first, the_second}
use Rattle.text_read_lines.proofs.sign_line.Goals as goal

pub returns-in-Some : goal.returns-in-Some
unfolding optional normal_line one_of line
returns-in-Some c =
    the_first _ (the_first _ (onward _ c.in-Some.ensures))

pub returns : goal.returns
unfolding optional normal_line one_of line
returns c = the_second (the_second (stopped _ c.in_default.ensures) refl) refl
