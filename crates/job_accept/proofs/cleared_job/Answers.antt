-- `job_accept::cleared_job`: the run, and what follows it. Assumes nothing.
use mathlib.Core.Path.{refl}
use lib.ListN.{length}
use Rattle.job_checks.specs.Job.{Job, Lent, job_of, lent_of}
use Rattle.run_field.proofs.Runs.{run_over}
use Rattle.job_clear.proofs.Lengths.{lengths_same}
use Rattle.job_outcome.proofs.Numbers.{run_ends, concluded_told}
use Rattle.job_outcome.proofs.Outcomes.{gives_told, gives_run}
use Rattle.mesh.specs.Lent.{mesh_in}
use Rattle.job_accept.proofs.cleared_job.Goals as goal

pub conclude-told-requires : goal.conclude-told-requires
conclude-told-requires c =
    let a = c.args in
    record {
      fit = c.requires.fit;
      ran = run_over a.terms.sign (length a.distances.now) a.terms.limit c.run_field-ran.ensures;
      long = c.requires.long;
    }

-- the run's number is one that a run may end by
pub answer_of-requires : goal.answer_of-requires
answer_of-requires c =
    let a = c.args in
    let job : Job = job_of a.grid (mesh_in a.mesh) a.terms in
    let lent : Lent = lent_of a.field.now a.names.now a.crossings.now a.rows.now a.distances.now a.cells.now a.triangles.now in
    concluded_told _ _ _ _ c.conclude-told.result c.conclude-told.ensures (run_ends job lent _ _ (c.run_field-ran.ensures.is 0))

-- what the run leaves is as long as what is lent
pub returns : goal.returns
returns c =
    let a = c.args in
    let r = c.run_field-ran in
    let job : Job = job_of a.grid (mesh_in a.mesh) a.terms in
    let lent : Lent = lent_of a.field.now a.names.now a.crossings.now a.rows.now a.distances.now a.cells.now a.triangles.now in
    let left : Lent = lent_of r.new.field r.new.names a.crossings.now a.rows.now r.new.distances r.new.cells r.new.triangles in
    gives_run job left lent (lengths_same left lent r.auto.field r.auto.names refl refl r.auto.distances r.auto.cells r.auto.triangles)
    (r.ensures.is 0)
    (gives_told c.conclude-told.result c.conclude-told.ensures c.answer_of.ensures)
