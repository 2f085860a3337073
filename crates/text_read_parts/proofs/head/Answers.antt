-- `text_read_parts::head`: its four lines and the two that may be left out, as in the reader on lists. Assumes nothing.
use mathlib.Core.Path.{◌∙◌}
use Rattle.text.specs.Reader.{head_at}
use Rattle.text.proofs.Calls.{onward, stopped}
use Rattle.text_read_parts.proofs.head.Goals as goal

pub returns-in_err-count : goal.returns-in_err-count
unfolding head_at
returns-in_err-count c = rw c.from_residual.ensures (stopped _ c.in_err-count.ensures)

pub returns-in_err-first : goal.returns-in_err-first
unfolding head_at
returns-in_err-first c =
    rw c.from_residual-in_err-first.ensures (stopped _ c.in_err-first.ensures ∙ onward _ c.in_ok-count.ensures)

pub returns-in_err-size : goal.returns-in_err-size
unfolding head_at
returns-in_err-size c =
    rw c.from_residual-in_err-size.ensures
    (stopped _ c.in_err-size.ensures ∙ onward _ c.in_ok-first.ensures ∙ onward _ c.in_ok-count.ensures)

pub returns-in_err-topology : goal.returns-in_err-topology
unfolding head_at
returns-in_err-topology c =
    rw c.from_residual-in_err-topology.ensures
    (stopped _ c.in_err-topology.ensures
    ∙ onward _ c.upright_line-upright.ensures
    ∙ onward _ c.in_ok-size.ensures
    ∙ onward _ c.in_ok-first.ensures
    ∙ onward _ c.in_ok-count.ensures)

pub returns : goal.returns
unfolding head_at
returns c =
    onward _ c.sign_line-sign.ensures
    ∙ onward _ c.in_ok-topology.ensures
    ∙ onward _ c.upright_line-upright.ensures
    ∙ onward _ c.in_ok-size.ensures
    ∙ onward _ c.in_ok-first.ensures
    ∙ onward _ c.in_ok-count.ensures
