-- `job_accept::accepted_job`: what is cleared is as long as what was lent, so it comes to the same. Assumes nothing.
use Rattle.mesh.specs.Mesh.{mesh_of}
use Rattle.job_checks.specs.Job.{Job, Lent, job_of, lent_of}
use Rattle.job_checks.specs.Refusals.{lengths_of}
use Rattle.job_checks.proofs.Accepted.{accepted}
use Rattle.job_outcome.proofs.Outcomes.{gives_cleared}
use Rattle.job_accept.proofs.Accepts.{fresh, long}
use Rattle.mesh.specs.Lent.{mesh_in}
use Rattle.job_accept.proofs.accepted_job.Goals as goal

pub cleared_job-requires : goal.cleared_job-requires
cleared_job-requires c =
    let job : Job = job_of c.args.grid (mesh_in c.args.mesh) c.args.terms in
    let lent : Lent =
    let a = c.args in
    lent_of a.field.now a.names.now a.crossings.now a.rows.now a.distances.now a.cells.now a.triangles.now in
    let mesh = mesh_in c.args.mesh in record { fit = (accepted c.args.grid c.args.terms.edition mesh (lengths_of (lent)) c.requires).fit; fresh = fresh (job) (lent) c.requires c.clear_all.ensures; long = long (job) (lent) c.requires c.clear_all.ensures }

pub returns : goal.returns
returns c =
    let job : Job = job_of c.args.grid (mesh_in c.args.mesh) c.args.terms in
    let lent : Lent =
    let a = c.args in
    lent_of a.field.now a.names.now a.crossings.now a.rows.now a.distances.now a.cells.now a.triangles.now in
    let left = lent_of c.clear_all.new.field c.clear_all.new.names c.clear_all.new.crossings c.clear_all.new.rows c.clear_all.new.distances c.clear_all.new.cells c.clear_all.new.triangles in
    gives_cleared (job) (lent) left c.clear_all.ensures c.cleared_job.ensures
