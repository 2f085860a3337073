-- `text_read_job::whole_job`: the parts come one after the other as in the reader on lists, whose laws say which texts it takes. Assumes nothing.
use native.Mathlib.Omega.{arith}
use mathlib.Core.Path.{◌∙◌}
use Rattle.text.specs.Reader.{job_at}
use Rattle.text.proofs.Calls.{onward, stopped}
use Rattle.text_read_job.proofs.Whole.{tells, refuses, refuses_more}
use Rattle.text_read_job.proofs.whole_job.Goals as goal

pub returns-in_err-head : goal.returns-in_err-head
unfolding job_at
returns-in_err-head c = rw c.from_residual.ensures (refuses _ (stopped _ c.in_err-head.ensures))

pub returns-in_err-count : goal.returns-in_err-count
unfolding job_at
returns-in_err-count c =
    rw c.from_residual-in_err-count.ensures (refuses _ (stopped _ c.in_err-count.ensures ∙ onward _ c.in_ok-head.ensures))

pub returns-in_err-row : goal.returns-in_err-row
unfolding job_at
returns-in_err-row c =
    rw c.from_residual-in_err-row.ensures
    (refuses _ (stopped _ c.in_err-row.ensures.is ∙ onward _ c.in_ok-count.ensures ∙ onward _ c.in_ok-head.ensures))

pub returns-in_err-tail : goal.returns-in_err-tail
unfolding job_at
returns-in_err-tail c =
    rw c.from_residual-in_err-tail.ensures
    (refuses _
    (stopped _ c.in_err-tail.ensures
    ∙ onward _ c.in_ok-row.ensures.is
    ∙ onward _ c.in_ok-count.ensures
    ∙ onward _ c.in_ok-head.ensures))

pub returns-then-tail-text : goal.returns-then-tail-text
unfolding job_at
returns-then-tail-text c =
    refuses_more _ _ c.if-tail-text.true
    (onward _ c.in_ok-tail.ensures
    ∙ onward _ c.in_ok-row.ensures.is
    ∙ onward _ c.in_ok-count.ensures
    ∙ onward _ c.in_ok-head.ensures)

pub returns : goal.returns
unfolding job_at
returns c =
    tells _ _ _ _ _ (omega (arith, c.vertices.auto, c.requires)) c.in_ok-row.ensures.few c.if-tail-text.false
    (onward _ c.in_ok-tail.ensures
    ∙ onward _ c.in_ok-row.ensures.is
    ∙ onward _ c.in_ok-count.ensures
    ∙ onward _ c.in_ok-head.ensures)
