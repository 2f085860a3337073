-- `job::sdf_generate_grid_sdf`: the answer of the whole job, written out, and what C handed in, read. Assumes nothing.
use Rattle.job_checks.specs.Job.{lent_of}
use Rattle.c_job.proofs.Given.{gives_c}
use Rattle.sdf_c.proofs.job.sdf_generate_grid_sdf.Goals as goal

pub returns : goal.returns
returns c =
    gives_c
    c.args.vertices.now
    c.args.indices.now
    (lent_of c.args.field.now c.args.names.now c.args.crossings.now c.args.rows.now c.args.distances.now c.args.cells.now c.args.triangles.now)
    c.into.ensures
    c.topology_in.ensures
    c.indices_in.ensures
    c.into-2.ensures
    c.answer_out.ensures
    c.generate_grid_sdf.ensures
