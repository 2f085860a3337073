-- `entries_own::run_records`: the job over the first entries of a row that is all zero, and that is the job over three buffers that are. Assumes nothing.
use Rattle.queue.specs.Queue.{blank}
use Rattle.job_checks.specs.Job.{job_of}
use Rattle.entries_own.specs.Own.{own_room}
use Rattle.entries_own.proofs.Zeros.{first_long, gives_four}
use Rattle.mesh.specs.Lent.{mesh_in}
use Rattle.entries_own.proofs.run_records.Goals as goal

pub returns : goal.returns
returns c =
    let a = c.args in
    let new = c.generate_grid_sdf_records.new in
    gives_four (job_of a.grid (mesh_in a.mesh) a.terms) a.field.now a.names.now a.crossings.now a.rows.now _ a.room
    (first_long own_room a.room blank c.requires)
    c.generate_grid_sdf_records.result new.field new.names new.crossings new.rows new.queue c.generate_grid_sdf_records.ensures
