-- `text_read_lines::number_line`: the calls come one after the other as in the reader on lists. Assumes nothing.
use borrow.Author.Tests.{le-leb, lt-leb}
use mathlib.Core.Path.{sym, ◌∙◌}
use Rattle.text.specs.Reader.{number_line}
use Rattle.text.proofs.Calls.{onward, stopped, passes, fails, kept_not}
use Rattle.text_read_lines.proofs.number_line.Goals as goal

pub returns-in_err-behind : goal.returns-in_err-behind
unfolding number_line
returns-in_err-behind c = rw c.from_residual.ensures (kept_not _ (stopped _ c.in_err-behind.ensures))

pub returns-in_err-number : goal.returns-in_err-number
unfolding number_line
returns-in_err-number c =
    rw c.from_residual-in_err-number.ensures (kept_not _ (c.in_err-number.ensures ∙ onward _ c.in_ok-behind.ensures))

pub returns-then-most-number : goal.returns-then-most-number
unfolding number_line
returns-then-most-number c =
    fails _ (sym (lt-leb _ _ c.if-most-number.true)) (c.in_ok-number.ensures ∙ onward _ c.in_ok-behind.ensures)

pub returns : goal.returns
unfolding number_line
returns c =
    passes _ (sym (le-leb _ _ c.if-most-number.false)) (c.in_ok-number.ensures ∙ onward _ c.in_ok-behind.ensures)
