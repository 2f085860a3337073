-- A caller from C that sees number 0 has demand 3 of the buffers that it lent: no refusal has the number 0 (`number_0` of crate
-- `job_outcome`), so the job was done. Assumes nothing.
use mathlib.Core.Path.{sym, ap, ◌∙◌}
use Rattle.job_checks.specs.Job.{Job, Lent}
use Rattle.job_outcome.proofs.Numbers.{number_0}
use Rattle.demand_3.proofs.Theorem.{demand_3}
use Rattle.c_job.specs.declared.SdfJobAnswer.{SdfJobAnswer}
use Rattle.demand_3_c.specs.AfterC.{AfterCallFromC}

pub after_a_call_from_c : (j : Job) (b : Lent) (answer : SdfJobAnswer) (left : Lent) → AfterCallFromC j b answer left
after_a_call_from_c j b answer left gives zero c v =
    let d = number_0 j b (sym (ap (λ (a : SdfJobAnswer). a.number) gives.answers) ∙ zero) in
    rw gives.leaves (demand_3 j b d.tally d.is c v)
