-- `text_convert::put_listed`: what is written is held by the conversion's record and slice. Assumes nothing.
use native.Mathlib.Omega.{arith}
use mathlib.Core.Path.{refl, sym, ap}
use lib.Seq.{length-take-le}
use Rattle.text.specs.TextJob.{job_text}
use Rattle.lists.proofs.Puts.{said}
use Rattle.text_convert.proofs.Listed.{few_held, list_is, list_fits}
use Rattle.text_convert.proofs.put_listed.Goals as goal

pub slice_bounds-list_triangles-end : goal.slice_bounds-list_triangles-end
slice_bounds-list_triangles-end c =
    sym (length-take-le _ _ c.requires.room_to_write.indices_held)

pub list_triangles-n-requires : goal.list_triangles-n-requires
list_triangles-n-requires c =
    let few = few_held c.args.asked c.args.vertices.now c.args.indices.now c.requires.room_to_write c.requires.topology_value in record { vertices_bound = omega (arith, c.requires.room_to_write.vertices_few); vertices_in_bounds = omega (arith, few, c.index_words-explicit.ensures) }

pub put_job-requires : goal.put_job-requires
put_job-requires c =
    list_fits _ _ _ c.requires.room_to_write c.requires.topology_value c.list_triangles-n.ensures c.list_head.ensures _ (sym c.index_words-explicit.ensures)

pub returns : goal.returns
returns c =
    let is = list_is _ _ _ c.requires.room_to_write c.requires.topology_value c.list_triangles-n.ensures c.list_head.ensures in
    said (ap job_text is) refl c.put_job.ensures
