-- `job_conclude::conclude`: what `close` leaves, and the queue cleared after a refusal, and else empty as the run left it. Assumes nothing.
use Rattle.mesh.specs.Mesh.{Mesh, mesh_of}
use Rattle.job_outcome.proofs.Outcomes.{gives_refused, gives_done}
use Rattle.mesh.specs.Lent.{mesh_in}
use Rattle.job_conclude.proofs.conclude.Goals as goal

pub returns-then-ran-ne0 : goal.returns-then-ran-ne0
returns-then-ran-ne0 c =
    let mesh : Mesh = mesh_in c.args.mesh in
    let a = c.args in
    gives_refused a.grid (mesh) a.terms.sign a.terms.limit a.terms.edition a.field.now a.names.now a.crossings.now a.rows.now
    a.distances.now a.cells.now a.triangles.now a.ran c.close-answer.ensures c.if-ran-ne0.true c.clear.ensures

pub returns-else-ran-ne0 : goal.returns-else-ran-ne0
returns-else-ran-ne0 c =
    let mesh : Mesh = mesh_in c.args.mesh in
    let a = c.args in
    gives_done a.grid (mesh) a.terms.sign a.terms.limit a.terms.edition a.field.now a.names.now a.crossings.now a.rows.now
    a.distances.now a.cells.now a.triangles.now a.ran c.close-answer.ensures c.if-ran-ne0.false c.requires.ran
