-- `text_read_lines::count_line`: the key, the three counts and the test of their product, as in the reader on lists. Assumes nothing.
use mathlib.Core.Path.{sym, ◌∙◌}
use Rattle.text.specs.Reader.{count_line}
use Rattle.text.proofs.Calls.{onward, stopped, passes, fails, kept_not}
use Rattle.text_read_lines.proofs.count_line.Goals as goal

pub returns-in_err-behind : goal.returns-in_err-behind
unfolding count_line
returns-in_err-behind c = rw c.from_residual.ensures (kept_not _ (stopped _ c.in_err-behind.ensures))

pub returns-in_err-count : goal.returns-in_err-count
unfolding count_line
returns-in_err-count c =
    rw c.from_residual-in_err-count.ensures (kept_not _ (c.in_err-count.ensures ∙ onward _ c.in_ok-behind.ensures))

pub returns-then-not-few : goal.returns-then-not-few
unfolding count_line
returns-then-not-few c =
    fails _ (sym c.if-not-few.true ∙ c.few_cells-few.ensures) (c.in_ok-count.ensures ∙ onward _ c.in_ok-behind.ensures)

pub returns : goal.returns
unfolding count_line
returns c =
    passes _ (sym c.if-not-few.false ∙ c.few_cells-few.ensures) (c.in_ok-count.ensures ∙ onward _ c.in_ok-behind.ensures)
