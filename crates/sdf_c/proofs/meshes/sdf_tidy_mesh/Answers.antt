-- `meshes::sdf_tidy_mesh`: the answer of the call, written out, and what C handed in, read. Assumes nothing.
use Rattle.tidy_mesh.specs.Outcome.{tidy_lent_of}
use Rattle.c_tidy.proofs.Given.{gives_tidy}
use Rattle.sdf_c.proofs.meshes.sdf_tidy_mesh.Goals as goal

pub returns : goal.returns
returns c =
    gives_tidy
    c.args.vertices.now
    c.args.indices.now
    (tidy_lent_of c.args.coordinates.now c.args.listed.now c.args.firsts.now c.args.causes.now)
    c.topology_in.ensures
    c.indices_in.ensures
    c.tidy_out.ensures
    c.tidy_mesh.ensures
