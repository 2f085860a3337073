-- `files::sdf_stl_facets`: the calls in turn, from the last. Assumes nothing.
use mathlib.Core.Path.{ap, ◌∙◌}
use Rattle.c_stl.specs.Stl.{stl_out}
use Rattle.sdf_c.proofs.files.sdf_stl_facets.Goals as goal

pub returns : goal.returns
returns c = c.stl_out.ensures ∙ ap stl_out c.stl_count.ensures
