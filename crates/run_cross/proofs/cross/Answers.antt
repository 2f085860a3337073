-- `run_cross::cross`: the crossings are zero when the triangles begin, and the room that is lent is long enough. What the plain pass adds up are the
-- crossings; what the quick pass marks, summed back, is the same (`crates/run_cross_back/proofs/Back.antt`). Assumes nothing.
use Rattle.mesh.specs.Mesh.{mesh_of}
use Rattle.run_cross_lines.proofs.Hits.{counted_plain}
use Rattle.run_cross_back.proofs.Back.{marks_fit, back_crossings}
use Rattle.mesh.specs.Lent.{mesh_in}
use Rattle.run_cross.proofs.cross.Goals as goal

pub sum_back-requires-clause-sums_fit : goal.sum_back-requires-clause-sums_fit
sum_back-requires-clause-sums_fit c =
    let a = c.args in
    let m = mesh_in a.mesh in
    marks_fit a.grid m _ c.requires.indices_len_bound (rw c.in-Quick.is at c.cross_all-grazed.ensures.fact)

pub returns-in-Plain-clause-crossings_after : goal.returns-in-Plain-clause-crossings_after
returns-in-Plain-clause-crossings_after c =
    let a = c.args in
    let m = mesh_in a.mesh in
    counted_plain a.grid m _ (rw c.in-Plain.is at c.cross_all-grazed.ensures.fact)

pub returns-in-Quick-clause-crossings_after : goal.returns-in-Quick-clause-crossings_after
returns-in-Quick-clause-crossings_after c =
    let a = c.args in
    let m = mesh_in a.mesh in
    back_crossings a.grid m _ _ (rw c.in-Quick.is at c.cross_all-grazed.ensures.fact) c.sum_back.ensures
