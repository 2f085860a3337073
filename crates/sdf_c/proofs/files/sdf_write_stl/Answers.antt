-- `files::sdf_write_stl`: the answer of the call, as a record, and the buffer as the call left it. Assumes nothing.
use Rattle.c_stl.proofs.Given.{gives_stl}
use Rattle.sdf_c.proofs.files.sdf_write_stl.Goals as goal

pub returns : goal.returns
returns c = gives_stl c.stl_out.ensures c.write_stl.ensures
