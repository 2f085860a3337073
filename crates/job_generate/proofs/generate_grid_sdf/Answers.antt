-- `job_generate::generate_grid_sdf`: the first refusal that applies, or the accepted job. Assumes nothing.
use mathlib.Core.Path.{sym, ap, ◌∙◌}
use Rattle.refusals.specs.Numbers.{refusal_number}
use Rattle.job_generate.proofs.Jobs.{gives_unchanged, gives_outcome}
use Rattle.job_generate.proofs.generate_grid_sdf.Goals as goal

pub returns-in-Err : goal.returns-in-Err
returns-in-Err c = gives_unchanged _ _ c.in-Err.refusal (sym (ap refusal_number c.in-Err.is) ∙ c.first_refusal.ensures)

pub accepted_job-requires : goal.accepted_job-requires
accepted_job-requires c = sym c.first_refusal.ensures ∙ ap refusal_number c.in_default.is

pub returns : goal.returns
returns c = gives_outcome _ _ (sym c.first_refusal.ensures ∙ ap refusal_number c.in_default.is) c.accepted_job.ensures
